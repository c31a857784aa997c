-- Device: what reading leaves, step by step.
use Rattle.std.proofs.Common.{◌≡◌, refl, ◌∙◌}
use Rattle.type_graph.specs.Growth.{Grows, KeepsAggregates}
use Rattle.type_graph.proofs.GrowthLaws.{grows_none, grows_twice}
use Rattle.cil_reader.specs.Settings.{Setting, env_in, Onward}
use Rattle.cil_declarators.specs.Extends.{Extends}

-- graphs

-- what is known with a graph

pub onward_from : (s t : Setting) → Extends s.graph t.graph → env_in t ≡ env_in s → Onward s t
onward_from s t a env = record { grows = a.grows; keeps = a.keeps; env = env }

pub onward_none : (s : Setting) → Onward s s
onward_none s = record { grows = grows_none s.graph; keeps = (refl, refl); env = refl }

pub onward_by : (s t : Setting) → Grows s.graph t.graph → KeepsAggregates s.graph t.graph → env_in t ≡ env_in s → Onward s t
onward_by s t grows keeps env = record { grows = grows; keeps = keeps; env = env }

pub onward_twice : (s t u : Setting) → Onward s t → Onward t u → Onward s u
onward_twice s t u a b = record {
  grows = grows_twice s.graph t.graph u.graph a.grows b.grows;
  keeps = (b.keeps.0 ∙ a.keeps.0, b.keeps.1 ∙ a.keeps.1);
  env = b.env ∙ a.env;
}

pub onward_grows : (s t : Setting) → Onward s t → Grows s.graph t.graph
onward_grows s t a = a.grows

pub onward_env : (s t : Setting) → Onward s t → env_in t ≡ env_in s
onward_env s t a = a.env
