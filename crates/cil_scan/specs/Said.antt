-- Device: the words of the code as words of the reading.
use Rattle.std.specs.Prelude.{List, map, Vec}
use Rattle.std.specs.Global.{Global}
use Rattle.cil_text.specs.Words.{Word, LeftParen, RightParen, LeftBracket, RightBracket, LeftBrace, RightBrace, Dot, Comma, Semicolon, Colon, Assign, Ellipsis, Tilde, Bang, Operator, VoidWord, BoolWord, CharWord, ShortWord, IntWord, LongWord, SignedWord, UnsignedWord, TagWord, ExternWord, StaticWord, IfWord, ElseWord, SwitchWord, WhileWord, CaseWord, DefaultWord, GotoWord, BreakWord, ReturnWord, Number, Name, Other}
use Rattle.cil_scan.specs.declared.words.Word.{Word as Seen}
use Rattle.cil_scan.specs.declared.words.Word.TheVariants as word

abbrev pub said : Seen → Word
said word.LeftParen = LeftParen
said word.RightParen = RightParen
said word.LeftBracket = LeftBracket
said word.RightBracket = RightBracket
said word.LeftBrace = LeftBrace
said word.RightBrace = RightBrace
said word.Dot = Dot
said word.Comma = Comma
said word.Semicolon = Semicolon
said word.Colon = Colon
said word.Assign = Assign
said word.Ellipsis = Ellipsis
said word.Tilde = Tilde
said word.Bang = Bang
said (word.Operator op) = Operator op
said word.VoidWord = VoidWord
said word.BoolWord = BoolWord
said word.CharWord = CharWord
said word.ShortWord = ShortWord
said word.IntWord = IntWord
said word.LongWord = LongWord
said word.SignedWord = SignedWord
said word.UnsignedWord = UnsignedWord
said (word.TagWord kind) = TagWord kind
said word.ExternWord = ExternWord
said word.StaticWord = StaticWord
said word.IfWord = IfWord
said word.ElseWord = ElseWord
said word.SwitchWord = SwitchWord
said word.WhileWord = WhileWord
said word.CaseWord = CaseWord
said word.DefaultWord = DefaultWord
said word.GotoWord = GotoWord
said word.BreakWord = BreakWord
said word.ReturnWord = ReturnWord
said (word.Number kind value) = Number kind value
said (word.Name text) = Name text.now
said word.Other = Other

abbrev pub all_said : List Seen → List Word
all_said ws = map said ws

abbrev pub all_lines : List (Vec Seen Global) → List (List Word)
all_lines lines = map (λ (v : Vec Seen Global). all_said v.items) lines
