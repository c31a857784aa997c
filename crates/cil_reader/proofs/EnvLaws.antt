-- Device: what is known when names of globals or of locals are set.
use Rattle.std.proofs.Common.{◌≡◌, List, [], length, map, sym, ap, ◌∙◌, subst}
use Rattle.type_graph.specs.Arena.{Graph, EachType}
use Rattle.cil_tree.specs.Tree.{Local}
use Rattle.cil_reader.specs.declared.names.Names.{Names}
use Rattle.cil_reader.specs.declared.names.Known.{Known}
use Rattle.cil_reader.specs.Settings.{Setting, KnownIn, zipped, env_of, env_in, locals_of, with_globals, with_locals, outside}

abbrev setting : Graph → Known → Setting
setting g k = record { graph = g; known = k }

pub outside_known : (g : Graph) (k : Known) (x y : Names) → KnownIn g k → EachType (length g.nodes) x.types.items → y.types.items ≡ [] → KnownIn g (record k { globals = x; locals = y })
outside_known g k x y known e none = record { tags = known.tags; members = known.members; globals = e; locals = subst (EachType (length g.nodes)) (sym none) tt }

no_names : (g : Graph) (y : Names) → y.numbering ≡ [] → locals_of g.nodes y ≡ []
no_names g y e = ap (λ ns. zipped g.nodes ns y.types.items) e

pub globals_env : (g : Graph) (k : Known) (s t : Setting) (x y : Names) → setting g k ≡ s → y.numbering ≡ [] → t ≡ setting g (record k { globals = x; locals = y }) → env_in t ≡ outside (with_globals (env_in s) (locals_of s.graph.nodes x))
unfolding env_in env_of
globals_env g k s t x y is none e =
    ap (λ (v : Setting). env_in v) e
    ∙ ap (λ (ls : List Local). record { abi = g.abi; tags = k.tags; members = map (locals_of g.nodes) k.members.items; globals = locals_of g.nodes x; locals = ls }) (no_names g y none)
    ∙ ap (λ (v : Setting). outside (with_globals (env_in v) (locals_of v.graph.nodes x))) is

pub locals_env : (g : Graph) (k : Known) (s t : Setting) (x : Names) → setting g k ≡ s → t ≡ setting g (record k { locals = x }) → env_in t ≡ with_locals (env_in s) (locals_of s.graph.nodes x)
unfolding env_in env_of
locals_env g k s t x is e = ap (λ (v : Setting). env_in v) e ∙ ap (λ (v : Setting). with_locals (env_in v) (locals_of v.graph.nodes x)) is
