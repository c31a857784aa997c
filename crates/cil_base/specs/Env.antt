-- Definition: the environments in which programs run (C11 5.1.2.2.1): the limits (own) leave room for the words and their array in objects of at most 2^31 - 1 bytes.
use Rattle.std.specs.Prelude.{ℕ, ◌^◌, ◌-◌, ◌<◌, List, length, All}
use Rattle.cil_base.specs.declared.runs.Env.{Env}

-- an argument word: its bytes, none of which is zero, since a zero byte ends it as a string
pub record IsWord (word : List ℕ) : Type 0 where
  pub short : length word < 2 ^ 31 - 1
  pub bytes : All (λ b. (0 < b) × (b < 256)) word

-- the words, of which the first names the program, and the bytes of the standard input
pub record IsEnv (env : Env) : Type 0 where
  pub some : 0 < length env.args.items
  pub few : length env.args.items < 2 ^ 28 - 1
  pub words : All IsWord env.args.items
  pub input : All (λ b. b < 256) env.input
