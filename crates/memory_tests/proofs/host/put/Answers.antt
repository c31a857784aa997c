use Rattle.std.proofs.Common.{Some, refl}
use Rattle.byte_mem.specs.declared.pointers.ObjName.TheVariants.{Entity}
use Rattle.byte_mem.specs.declared.values.Byte.TheVariants.{Known}
use Rattle.byte_mem.specs.Object.{new_held}
use Rattle.host_calls.proofs.CountLemmas.{counted_put}
use Rattle.memory_tests.proofs.host.put.Goals as goal

pub returns : goal.returns
returns c = counted_put c.make.result _ _ c.args.io.now (Entity (record { 0 = c.args.e })) (Some (new_held 8 (Known 0) c.args.read_only)) (λ i. refl) c.make.ensures c.requires
