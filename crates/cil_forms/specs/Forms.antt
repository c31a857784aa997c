-- Device: what stands next in a line, by the code's steps.
use Rattle.std.specs.Prelude.{Bool, true, false, List, [], ◌∷◌, Option, Some, None}
use Rattle.cil_text.specs.Words.{Word, RightParen, RightBracket, LeftBrace, RightBrace, Comma, Semicolon, Colon, Assign, VoidWord, IfWord, SwitchWord, WhileWord, CaseWord, DefaultWord, GotoWord, BreakWord, ReturnWord}
use Rattle.cil_text.specs.ReadExps.{Form, Negated, Complemented, Denied, Addressed, Pointed, Converted, Combined}
use Rattle.cil_forms.specs.declared.ahead.Form.{Form as SeenForm}
use Rattle.cil_forms.specs.declared.ahead.Form.TheVariants as form

abbrev pub form_said : SeenForm → Form
form_said form.Negated = Negated
form_said form.Complemented = Complemented
form_said form.Denied = Denied
form_said form.Addressed = Addressed
form_said form.Pointed = Pointed
form_said form.Converted = Converted
form_said form.Combined = Combined

-- what stands behind `]`
abbrev pub bracketed : List Word → Option (List Word)
bracketed (RightBracket ∷ ws) = Some ws
bracketed _ = None

-- behind `)`, and behind `void )`
abbrev pub closing : List Word → Option (List Word)
closing (RightParen ∷ ws) = Some ws
closing _ = None

abbrev pub void_alone : List Word → Option (List Word)
void_alone (VoidWord ∷ RightParen ∷ ws) = Some ws
void_alone _ = None

abbrev pub is_end : List Word → Bool
is_end (Semicolon ∷ []) = true
is_end _ = false

-- what stands behind an argument, and whether it was the last
abbrev pub behind_argument : List Word → Option (Bool × List Word)
behind_argument (RightParen ∷ ws) = Some (true, ws)
behind_argument (Comma ∷ ws) = Some (false, ws)
behind_argument _ = None

abbrev pub assigned : List Word → Option (List Word)
assigned (Assign ∷ ws) = Some ws
assigned _ = None

-- what stands behind an item, and whether it was the last
abbrev pub behind_item : List Word → Option (Bool × List Word)
behind_item (RightBrace ∷ ws) = Some (true, ws)
behind_item (Comma ∷ ws) = Some (false, ws)
behind_item _ = None

abbrev pub is_comma : List Word → Bool
is_comma (Comma ∷ []) = true
is_comma _ = false

-- the end of a line that opens a block behind an expression
abbrev pub ends_opening : List Word → Bool
ends_opening (RightParen ∷ LeftBrace ∷ []) = true
ends_opening _ = false

-- the end of a line with a case label
abbrev pub ends_case : List Word → Bool
ends_case (Colon ∷ Semicolon ∷ []) = true
ends_case _ = false

-- a line that opens a part of a statement, or closes one
abbrev pub is_block : List Word → Bool
is_block (IfWord ∷ ws) = true
is_block (SwitchWord ∷ ws) = true
is_block (WhileWord ∷ ws) = true
is_block (LeftBrace ∷ ws) = true
is_block (RightBrace ∷ ws) = true
is_block _ = false

-- a line with a case label or a jump
abbrev pub is_jump : List Word → Bool
is_jump (CaseWord ∷ ws) = true
is_jump (DefaultWord ∷ ws) = true
is_jump (GotoWord ∷ ws) = true
is_jump (BreakWord ∷ ws) = true
is_jump (ReturnWord ∷ ws) = true
is_jump _ = false
