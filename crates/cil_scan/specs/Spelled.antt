-- Device: the table of punctuators and that of keywords by the lengths of their tokens.
use Rattle.std.specs.Prelude.{ℕ, nat_eq, ◌&&◌, if◌then◌else◌, List, [], ◌∷◌, Option, Some, None, codes}
use Rattle.cil_base.specs.declared.operators.BinOp.TheVariants.{Mul, Div, Rem, Add, Sub, Shl, Shr, Lt, Gt, Le, Ge, Eq, Ne, And, Xor, Or}
use Rattle.type_graph.specs.declared.aggregates.AggKind.TheVariants.{Struct, Union, Enum}
use Rattle.cil_tree.specs.Lines.{Token}
use Rattle.cil_text.specs.Words.{look_up, Word, LeftParen, RightParen, LeftBracket, RightBracket, LeftBrace, RightBrace, Dot, Comma, Semicolon, Colon, Assign, Ellipsis, Tilde, Bang, Operator, VoidWord, BoolWord, CharWord, ShortWord, IntWord, LongWord, SignedWord, UnsignedWord, TagWord, ExternWord, StaticWord, IfWord, ElseWord, SwitchWord, WhileWord, CaseWord, DefaultWord, GotoWord, BreakWord, ReturnWord}

unfoldable pub sign_1 : ℕ → Option Word
sign_1 a =
    if nat_eq a 40 then Some LeftParen else (if nat_eq a 41 then Some RightParen else (if nat_eq a 59 then Some Semicolon else (if nat_eq a 42 then Some (Operator Mul) else (if nat_eq a 44 then Some Comma else (if nat_eq a 91 then Some LeftBracket else (if nat_eq a 93 then Some RightBracket else (if nat_eq a 123 then Some LeftBrace else (if nat_eq a 125 then Some RightBrace else (if nat_eq a 46 then Some Dot else (if nat_eq a 58 then Some Colon else (if nat_eq a 61 then Some Assign else (if nat_eq a 126 then Some Tilde else (if nat_eq a 33 then Some Bang else (if nat_eq a 47 then Some (Operator Div) else (if nat_eq a 37 then Some (Operator Rem) else (if nat_eq a 43 then Some (Operator Add) else (if nat_eq a 45 then Some (Operator Sub) else (if nat_eq a 60 then Some (Operator Lt) else (if nat_eq a 62 then Some (Operator Gt) else (if nat_eq a 38 then Some (Operator And) else (if nat_eq a 94 then Some (Operator Xor) else (if nat_eq a 124 then Some (Operator Or) else None))))))))))))))))))))))

unfoldable pub sign_2 : ℕ → ℕ → Option Word
sign_2 a b =
    if nat_eq a 60 && nat_eq b 60 then Some (Operator Shl) else (if nat_eq a 62 && nat_eq b 62 then Some (Operator Shr) else (if nat_eq a 60 && nat_eq b 61 then Some (Operator Le) else (if nat_eq a 62 && nat_eq b 61 then Some (Operator Ge) else (if nat_eq a 61 && nat_eq b 61 then Some (Operator Eq) else (if nat_eq a 33 && nat_eq b 61 then Some (Operator Ne) else None)))))

unfoldable pub sign_3 : ℕ → ℕ → ℕ → Option Word
sign_3 a b c =
    if nat_eq a 46 && (nat_eq b 46 && nat_eq c 46) then Some Ellipsis else None

unfoldable pub word_2 : ℕ → ℕ → Option Word
word_2 a b =
    if nat_eq a 105 && nat_eq b 102 then Some IfWord else None

unfoldable pub word_3 : ℕ → ℕ → ℕ → Option Word
word_3 a b c =
    if nat_eq a 105 && (nat_eq b 110 && nat_eq c 116) then Some IntWord else None

unfoldable pub word_4 : ℕ → ℕ → ℕ → ℕ → Option Word
word_4 a b c d =
    if nat_eq a 118 && (nat_eq b 111 && (nat_eq c 105 && nat_eq d 100)) then Some VoidWord else (if nat_eq a 99 && (nat_eq b 104 && (nat_eq c 97 && nat_eq d 114)) then Some CharWord else (if nat_eq a 108 && (nat_eq b 111 && (nat_eq c 110 && nat_eq d 103)) then Some LongWord else (if nat_eq a 101 && (nat_eq b 110 && (nat_eq c 117 && nat_eq d 109)) then Some (TagWord Enum) else (if nat_eq a 101 && (nat_eq b 108 && (nat_eq c 115 && nat_eq d 101)) then Some ElseWord else (if nat_eq a 99 && (nat_eq b 97 && (nat_eq c 115 && nat_eq d 101)) then Some CaseWord else (if nat_eq a 103 && (nat_eq b 111 && (nat_eq c 116 && nat_eq d 111)) then Some GotoWord else None))))))

unfoldable pub word_5 : ℕ → ℕ → ℕ → ℕ → ℕ → Option Word
word_5 a b c d e =
    if nat_eq a 95 && (nat_eq b 66 && (nat_eq c 111 && (nat_eq d 111 && nat_eq e 108))) then Some BoolWord else (if nat_eq a 115 && (nat_eq b 104 && (nat_eq c 111 && (nat_eq d 114 && nat_eq e 116))) then Some ShortWord else (if nat_eq a 117 && (nat_eq b 110 && (nat_eq c 105 && (nat_eq d 111 && nat_eq e 110))) then Some (TagWord Union) else (if nat_eq a 119 && (nat_eq b 104 && (nat_eq c 105 && (nat_eq d 108 && nat_eq e 101))) then Some WhileWord else (if nat_eq a 98 && (nat_eq b 114 && (nat_eq c 101 && (nat_eq d 97 && nat_eq e 107))) then Some BreakWord else None))))

abbrev pub words_6 : List (Token × Word)
words_6 = (codes "signed", SignedWord) ∷ (codes "struct", TagWord Struct) ∷ (codes "extern", ExternWord) ∷ (codes "static", StaticWord) ∷ (codes "switch", SwitchWord) ∷ (codes "return", ReturnWord) ∷ []

unfoldable pub word_7 : ℕ → ℕ → ℕ → ℕ → ℕ → ℕ → ℕ → Option Word
word_7 a b c d e f g =
    if nat_eq a 100 && (nat_eq b 101 && (nat_eq c 102 && (nat_eq d 97 && (nat_eq e 117 && (nat_eq f 108 && nat_eq g 116))))) then Some DefaultWord else None

unfoldable pub word_8 : ℕ → ℕ → ℕ → ℕ → ℕ → ℕ → ℕ → ℕ → Option Word
word_8 a b c d e f g h =
    if nat_eq a 117 && (nat_eq b 110 && (nat_eq c 115 && (nat_eq d 105 && (nat_eq e 103 && (nat_eq f 110 && (nat_eq g 101 && nat_eq h 100)))))) then Some UnsignedWord else None

abbrev pub sign_of : List ℕ → Option Word
sign_of (a ∷ []) = sign_1 a
sign_of (a ∷ b ∷ []) = sign_2 a b
sign_of (a ∷ b ∷ c ∷ []) = sign_3 a b c
sign_of _ = None

abbrev pub reserved_of : List ℕ → Option Word
reserved_of (a ∷ b ∷ []) = word_2 a b
reserved_of (a ∷ b ∷ c ∷ []) = word_3 a b c
reserved_of (a ∷ b ∷ c ∷ d ∷ []) = word_4 a b c d
reserved_of (a ∷ b ∷ c ∷ d ∷ e ∷ []) = word_5 a b c d e
reserved_of (a ∷ b ∷ c ∷ d ∷ e ∷ f ∷ []) = look_up words_6 (a ∷ b ∷ c ∷ d ∷ e ∷ f ∷ [])
reserved_of (a ∷ b ∷ c ∷ d ∷ e ∷ f ∷ g ∷ []) = word_7 a b c d e f g
reserved_of (a ∷ b ∷ c ∷ d ∷ e ∷ f ∷ g ∷ h ∷ []) = word_8 a b c d e f g h
reserved_of _ = None
