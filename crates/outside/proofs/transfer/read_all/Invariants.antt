use Rattle.std.proofs.Common.{◌≡◌, ◌≤◌, ◌-◌, take, vec_len}
use Rattle.outside.specs.Moves.{WasRead}
use Rattle.outside.specs.Named.{left_of, names_of}
use Rattle.outside.proofs.transfer.read_all.Given as goal

abbrev pub invariant-loop-filled : goal.invariant-loop-filled
invariant-loop-filled g l = record {
  filled : l.filled ≤ vec_len l.buffer;
  limited : vec_len l.buffer ≤ l.limit;
  was_read : WasRead (left_of (g.F.Files.told l.fn.files)) (left_of (g.F.Files.told l.files)) (take l.filled l.buffer.items);
  names : names_of (g.F.Files.told l.files) ≡ names_of (g.F.Files.told l.fn.files);
  calm : g.F.Files.faults l.files ≡ g.F.Files.faults l.fn.files;
  idle : l.limit ≡ 0 → l.files ≡ l.fn.files;
  same_strays : g.F.Files.strays l.files ≡ g.F.Files.strays l.fn.files;
}

abbrev pub decreases-loop-filled : goal.decreases-loop-filled
decreases-loop-filled g l = l.limit - l.filled
