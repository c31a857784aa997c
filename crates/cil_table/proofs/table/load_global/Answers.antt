use Rattle.std.proofs.Common.{inl, inr, sym, subst}
use Rattle.cil_tree.specs.declared.globals.GlobalDef.{GlobalDef}
use Rattle.cil_tree.specs.View.{definition_of, global_of}
use Rattle.cil_start.specs.Loads.{loaded_in}
use Rattle.cil_table.proofs.EntryLaws.{fits, IsObject, data_entry}
use Rattle.cil_table.proofs.table.load_global.Goals as goal

pub returns-in-Zero : goal.returns-in-Zero
returns-in-Zero c =
    let l = c.args.l.now in
    let is_object = λ (d : GlobalDef). IsObject (definition_of l.unit.now.graph.nodes l.names.now d) in
    let object : is_object c.args.x.now.def = elim c.in-Zero.is [ inl e ↦ subst is_object (sym e) tt | inr e ↦ subst is_object (sym e.1) tt ] in
    data_entry (loaded_in l) (global_of l.unit.now.graph.nodes l.names.now c.args.x.now) c.args.x.now.ty.0 c.requires.ready.program c.requires.ready.numbers (fits l c.args.x.now c.requires.ready c.requires.global) object
