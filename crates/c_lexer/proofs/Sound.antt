-- Device: a text that is a piece to the automaton is a piece of that kind.
use Rattle.std.proofs.Common.{◌≡◌, ℕ, inl, inr, Bool, true, false, not, ◌||◌, ◌==◌, if◌then◌else◌, List, [], ◌∷◌, ◌++◌, Option, Some, None, refl, sym, ap, subst, ◌∙◌, bytes_eq, arith}
use Rattle.std.specs.Char.{is_ascii_digit}
use Rattle.std.specs.List.{list_any}
use Rattle.std.proofs.lemmas.Bool.{cond_both, and_from, or_cases, or_from, or_left, eqb-true}
use Rattle.std.proofs.lemmas.Bool.Decides.{nat_tests}
use Rattle.cil_base.specs.declared.tokens.Punctuator.{Punctuator}
use Rattle.cil_base.specs.declared.tokens.Punctuator.TheVariants.{LeftBracket, RightBracket, LeftParen, RightParen, LeftBrace, RightBrace, Dot, Arrow, PlusPlus, MinusMinus, Ampersand, Star, Plus, Minus, Tilde, Exclamation, Slash, Percent, LeftShift, RightShift, Less, Greater, LessEqual, GreaterEqual, EqualEqual, ExclamationEqual, Caret, Bar, AmpersandAmpersand, BarBar, Question, Colon, Semicolon, Ellipsis, Equal, StarEqual, SlashEqual, PercentEqual, PlusEqual, MinusEqual, LeftShiftEqual, RightShiftEqual, AmpersandEqual, CaretEqual, BarEqual, Comma}
use Rattle.c_lexer.specs.declared.pieces.Sign.TheVariants.{Read, LessColon, ColonGreater, LessPercent, PercentGreater, Hash, TwoHashes, PercentColon, TwoPercentColons}
use Rattle.c_lexer.specs.declared.pieces.Kind.{Kind}
use Rattle.c_lexer.specs.declared.pieces.Kind.TheVariants.{Blank, LineEnd as LineEndPiece, Comment as CommentPiece, Directive, Word as WordPiece, Number as NumberPiece, Character, Text, Sign as SignPiece, Broken}
use Rattle.c_lexer.specs.declared.state.Mode.TheVariants.{Plain, Escaped}
use Rattle.c_lexer.specs.declared.state.Quote.TheVariants.{Single, Double}
use Rattle.c_lexer.specs.declared.state.Prefix.TheVariants.{Letter, SmallU, SmallU8}
use Rattle.c_lexer.specs.declared.state.State.{State}
use Rattle.c_lexer.specs.declared.state.State.TheVariants.{Line, LineComment, CommentOpen, Prefix, Word, Backslash, Number, Opened, Sign as InSign, TwoDots, PercentColonPercent, Stray}
use Rattle.c_lexer.specs.Bytes.{is_blank, is_nondigit, is_word_byte}
use Rattle.c_lexer.specs.Languages.{is_nil, on_mode, word_behind, are_word_parts, are_number_parts, is_number, is_literal_rest, sign_bytes, is_stray, is_broken, is_piece}
use Rattle.c_lexer.specs.Automaton.{one_byte_sign, sign_or_stray, begins_sign, begins, behind_dot, behind_minus, behind_plus, behind_ampersand, behind_bar, behind_slash, behind_percent, behind_less, behind_greater, only, behind_punctuator, behind_sign, word_at, behind_prefix, behind, accepts}
use Rattle.c_lexer.specs.Accepted.{on_some, accepted}
use Rattle.c_lexer.proofs.Suffixes.{if_some, blanks, line_end, line, line_comment, word, number, opened, backslash, comment_open}

held : (t : Bool) (j k : Kind) → if_some t j ≡ Some k → (t ≡ true) × (j ≡ k)
held true j k e = (refl, cc)
held false j k e = cc

-- what a state accepts is a piece, where its test says so
conclude : (fresh : Bool) (text : List ℕ) (o : Option Kind) (t : Bool) (j k : Kind) → o ≡ if_some t j → o ≡ Some k → (t ≡ true → is_piece fresh j text ≡ true) → is_piece fresh k text ≡ true
conclude fresh text o t j k eq e whole = let h : (t ≡ true) × (j ≡ k) = held t j k (sym eq ∙ e) in subst (λ i. is_piece fresh i text ≡ true) h.1 (whole h.0)

-- a state that is whole and goes on with no byte
at_end : (fresh : Bool) (text : List ℕ) (j k : Kind) → Some j ≡ Some k → is_piece fresh j text ≡ true → is_piece fresh k text ≡ true
at_end fresh text j k e whole = let same : j ≡ k = cc in subst (λ i. is_piece fresh i text ≡ true) same whole

-- one of some bytes leads on
through : (fresh : Bool) (k : Kind) (front : List ℕ) (c n : ℕ) (cs : List ℕ) → (c == n) ≡ true → is_piece fresh k (front ++ n ∷ cs) ≡ true → is_piece fresh k (front ++ c ∷ cs) ≡ true
through fresh k front c n cs is whole = subst (λ d. is_piece fresh k (front ++ d ∷ cs) ≡ true) (sym (eqb-true c n is)) whole

grown_LeftBracket : (fresh : Bool) (cs : List ℕ) (k : Kind) → accepted (InSign (Read LeftBracket)) cs ≡ Some k → is_piece fresh k (91 ∷ cs) ≡ true
unfolding behind accepts behind_punctuator behind_sign behind_dot behind_minus behind_plus behind_ampersand behind_bar behind_slash behind_percent behind_less behind_greater only
grown_LeftBracket fresh [] k e = at_end fresh _ (SignPiece (Read LeftBracket)) k e refl
grown_LeftBracket fresh (c ∷ cs) k e = cc

grown_RightBracket : (fresh : Bool) (cs : List ℕ) (k : Kind) → accepted (InSign (Read RightBracket)) cs ≡ Some k → is_piece fresh k (93 ∷ cs) ≡ true
unfolding behind accepts behind_punctuator behind_sign behind_dot behind_minus behind_plus behind_ampersand behind_bar behind_slash behind_percent behind_less behind_greater only
grown_RightBracket fresh [] k e = at_end fresh _ (SignPiece (Read RightBracket)) k e refl
grown_RightBracket fresh (c ∷ cs) k e = cc

grown_LeftParen : (fresh : Bool) (cs : List ℕ) (k : Kind) → accepted (InSign (Read LeftParen)) cs ≡ Some k → is_piece fresh k (40 ∷ cs) ≡ true
unfolding behind accepts behind_punctuator behind_sign behind_dot behind_minus behind_plus behind_ampersand behind_bar behind_slash behind_percent behind_less behind_greater only
grown_LeftParen fresh [] k e = at_end fresh _ (SignPiece (Read LeftParen)) k e refl
grown_LeftParen fresh (c ∷ cs) k e = cc

grown_RightParen : (fresh : Bool) (cs : List ℕ) (k : Kind) → accepted (InSign (Read RightParen)) cs ≡ Some k → is_piece fresh k (41 ∷ cs) ≡ true
unfolding behind accepts behind_punctuator behind_sign behind_dot behind_minus behind_plus behind_ampersand behind_bar behind_slash behind_percent behind_less behind_greater only
grown_RightParen fresh [] k e = at_end fresh _ (SignPiece (Read RightParen)) k e refl
grown_RightParen fresh (c ∷ cs) k e = cc

grown_LeftBrace : (fresh : Bool) (cs : List ℕ) (k : Kind) → accepted (InSign (Read LeftBrace)) cs ≡ Some k → is_piece fresh k (123 ∷ cs) ≡ true
unfolding behind accepts behind_punctuator behind_sign behind_dot behind_minus behind_plus behind_ampersand behind_bar behind_slash behind_percent behind_less behind_greater only
grown_LeftBrace fresh [] k e = at_end fresh _ (SignPiece (Read LeftBrace)) k e refl
grown_LeftBrace fresh (c ∷ cs) k e = cc

grown_RightBrace : (fresh : Bool) (cs : List ℕ) (k : Kind) → accepted (InSign (Read RightBrace)) cs ≡ Some k → is_piece fresh k (125 ∷ cs) ≡ true
unfolding behind accepts behind_punctuator behind_sign behind_dot behind_minus behind_plus behind_ampersand behind_bar behind_slash behind_percent behind_less behind_greater only
grown_RightBrace fresh [] k e = at_end fresh _ (SignPiece (Read RightBrace)) k e refl
grown_RightBrace fresh (c ∷ cs) k e = cc

read_AmpersandAmpersand : (fresh : Bool) (cs : List ℕ) (k : Kind) → accepted (InSign (Read AmpersandAmpersand)) cs ≡ Some k → is_piece fresh k (38 ∷ 38 ∷ cs) ≡ true
unfolding behind accepts behind_punctuator behind_sign behind_dot behind_minus behind_plus behind_ampersand behind_bar behind_slash behind_percent behind_less behind_greater only
read_AmpersandAmpersand fresh [] k e = at_end fresh _ (SignPiece (Read AmpersandAmpersand)) k e refl
read_AmpersandAmpersand fresh (c ∷ cs) k e = cc

read_AmpersandEqual : (fresh : Bool) (cs : List ℕ) (k : Kind) → accepted (InSign (Read AmpersandEqual)) cs ≡ Some k → is_piece fresh k (38 ∷ 61 ∷ cs) ≡ true
unfolding behind accepts behind_punctuator behind_sign behind_dot behind_minus behind_plus behind_ampersand behind_bar behind_slash behind_percent behind_less behind_greater only
read_AmpersandEqual fresh [] k e = at_end fresh _ (SignPiece (Read AmpersandEqual)) k e refl
read_AmpersandEqual fresh (c ∷ cs) k e = cc

grown_Ampersand : (fresh : Bool) (cs : List ℕ) (k : Kind) → accepted (InSign (Read Ampersand)) cs ≡ Some k → is_piece fresh k (38 ∷ cs) ≡ true
unfolding behind accepts behind_punctuator behind_sign behind_dot behind_minus behind_plus behind_ampersand behind_bar behind_slash behind_percent behind_less behind_greater only
grown_Ampersand fresh [] k = λ e. at_end fresh _ (SignPiece (Read Ampersand)) k e refl
grown_Ampersand fresh (c ∷ cs) k =
    cond_both (c == 38) _ _ (λ s. on_some s (λ t. accepted t cs) ≡ Some k → is_piece fresh k (38 ∷ c ∷ cs) ≡ true) (λ is e. through fresh k (38 ∷ []) c 38 cs is (read_AmpersandAmpersand fresh cs k e)) (λ _.
    cond_both (c == 61) _ _ (λ s. on_some s (λ t. accepted t cs) ≡ Some k → is_piece fresh k (38 ∷ c ∷ cs) ≡ true) (λ is e. through fresh k (38 ∷ []) c 61 cs is (read_AmpersandEqual fresh cs k e)) (λ _.
    λ e. cc))

read_StarEqual : (fresh : Bool) (cs : List ℕ) (k : Kind) → accepted (InSign (Read StarEqual)) cs ≡ Some k → is_piece fresh k (42 ∷ 61 ∷ cs) ≡ true
unfolding behind accepts behind_punctuator behind_sign behind_dot behind_minus behind_plus behind_ampersand behind_bar behind_slash behind_percent behind_less behind_greater only
read_StarEqual fresh [] k e = at_end fresh _ (SignPiece (Read StarEqual)) k e refl
read_StarEqual fresh (c ∷ cs) k e = cc

grown_Star : (fresh : Bool) (cs : List ℕ) (k : Kind) → accepted (InSign (Read Star)) cs ≡ Some k → is_piece fresh k (42 ∷ cs) ≡ true
unfolding behind accepts behind_punctuator behind_sign behind_dot behind_minus behind_plus behind_ampersand behind_bar behind_slash behind_percent behind_less behind_greater only
grown_Star fresh [] k = λ e. at_end fresh _ (SignPiece (Read Star)) k e refl
grown_Star fresh (c ∷ cs) k =
    cond_both (c == 61) _ _ (λ s. on_some s (λ t. accepted t cs) ≡ Some k → is_piece fresh k (42 ∷ c ∷ cs) ≡ true) (λ is e. through fresh k (42 ∷ []) c 61 cs is (read_StarEqual fresh cs k e)) (λ _.
    λ e. cc)

read_PlusPlus : (fresh : Bool) (cs : List ℕ) (k : Kind) → accepted (InSign (Read PlusPlus)) cs ≡ Some k → is_piece fresh k (43 ∷ 43 ∷ cs) ≡ true
unfolding behind accepts behind_punctuator behind_sign behind_dot behind_minus behind_plus behind_ampersand behind_bar behind_slash behind_percent behind_less behind_greater only
read_PlusPlus fresh [] k e = at_end fresh _ (SignPiece (Read PlusPlus)) k e refl
read_PlusPlus fresh (c ∷ cs) k e = cc

read_PlusEqual : (fresh : Bool) (cs : List ℕ) (k : Kind) → accepted (InSign (Read PlusEqual)) cs ≡ Some k → is_piece fresh k (43 ∷ 61 ∷ cs) ≡ true
unfolding behind accepts behind_punctuator behind_sign behind_dot behind_minus behind_plus behind_ampersand behind_bar behind_slash behind_percent behind_less behind_greater only
read_PlusEqual fresh [] k e = at_end fresh _ (SignPiece (Read PlusEqual)) k e refl
read_PlusEqual fresh (c ∷ cs) k e = cc

grown_Plus : (fresh : Bool) (cs : List ℕ) (k : Kind) → accepted (InSign (Read Plus)) cs ≡ Some k → is_piece fresh k (43 ∷ cs) ≡ true
unfolding behind accepts behind_punctuator behind_sign behind_dot behind_minus behind_plus behind_ampersand behind_bar behind_slash behind_percent behind_less behind_greater only
grown_Plus fresh [] k = λ e. at_end fresh _ (SignPiece (Read Plus)) k e refl
grown_Plus fresh (c ∷ cs) k =
    cond_both (c == 43) _ _ (λ s. on_some s (λ t. accepted t cs) ≡ Some k → is_piece fresh k (43 ∷ c ∷ cs) ≡ true) (λ is e. through fresh k (43 ∷ []) c 43 cs is (read_PlusPlus fresh cs k e)) (λ _.
    cond_both (c == 61) _ _ (λ s. on_some s (λ t. accepted t cs) ≡ Some k → is_piece fresh k (43 ∷ c ∷ cs) ≡ true) (λ is e. through fresh k (43 ∷ []) c 61 cs is (read_PlusEqual fresh cs k e)) (λ _.
    λ e. cc))

read_Arrow : (fresh : Bool) (cs : List ℕ) (k : Kind) → accepted (InSign (Read Arrow)) cs ≡ Some k → is_piece fresh k (45 ∷ 62 ∷ cs) ≡ true
unfolding behind accepts behind_punctuator behind_sign behind_dot behind_minus behind_plus behind_ampersand behind_bar behind_slash behind_percent behind_less behind_greater only
read_Arrow fresh [] k e = at_end fresh _ (SignPiece (Read Arrow)) k e refl
read_Arrow fresh (c ∷ cs) k e = cc

read_MinusMinus : (fresh : Bool) (cs : List ℕ) (k : Kind) → accepted (InSign (Read MinusMinus)) cs ≡ Some k → is_piece fresh k (45 ∷ 45 ∷ cs) ≡ true
unfolding behind accepts behind_punctuator behind_sign behind_dot behind_minus behind_plus behind_ampersand behind_bar behind_slash behind_percent behind_less behind_greater only
read_MinusMinus fresh [] k e = at_end fresh _ (SignPiece (Read MinusMinus)) k e refl
read_MinusMinus fresh (c ∷ cs) k e = cc

read_MinusEqual : (fresh : Bool) (cs : List ℕ) (k : Kind) → accepted (InSign (Read MinusEqual)) cs ≡ Some k → is_piece fresh k (45 ∷ 61 ∷ cs) ≡ true
unfolding behind accepts behind_punctuator behind_sign behind_dot behind_minus behind_plus behind_ampersand behind_bar behind_slash behind_percent behind_less behind_greater only
read_MinusEqual fresh [] k e = at_end fresh _ (SignPiece (Read MinusEqual)) k e refl
read_MinusEqual fresh (c ∷ cs) k e = cc

grown_Minus : (fresh : Bool) (cs : List ℕ) (k : Kind) → accepted (InSign (Read Minus)) cs ≡ Some k → is_piece fresh k (45 ∷ cs) ≡ true
unfolding behind accepts behind_punctuator behind_sign behind_dot behind_minus behind_plus behind_ampersand behind_bar behind_slash behind_percent behind_less behind_greater only
grown_Minus fresh [] k = λ e. at_end fresh _ (SignPiece (Read Minus)) k e refl
grown_Minus fresh (c ∷ cs) k =
    cond_both (c == 62) _ _ (λ s. on_some s (λ t. accepted t cs) ≡ Some k → is_piece fresh k (45 ∷ c ∷ cs) ≡ true) (λ is e. through fresh k (45 ∷ []) c 62 cs is (read_Arrow fresh cs k e)) (λ _.
    cond_both (c == 45) _ _ (λ s. on_some s (λ t. accepted t cs) ≡ Some k → is_piece fresh k (45 ∷ c ∷ cs) ≡ true) (λ is e. through fresh k (45 ∷ []) c 45 cs is (read_MinusMinus fresh cs k e)) (λ _.
    cond_both (c == 61) _ _ (λ s. on_some s (λ t. accepted t cs) ≡ Some k → is_piece fresh k (45 ∷ c ∷ cs) ≡ true) (λ is e. through fresh k (45 ∷ []) c 61 cs is (read_MinusEqual fresh cs k e)) (λ _.
    λ e. cc)))

grown_Tilde : (fresh : Bool) (cs : List ℕ) (k : Kind) → accepted (InSign (Read Tilde)) cs ≡ Some k → is_piece fresh k (126 ∷ cs) ≡ true
unfolding behind accepts behind_punctuator behind_sign behind_dot behind_minus behind_plus behind_ampersand behind_bar behind_slash behind_percent behind_less behind_greater only
grown_Tilde fresh [] k e = at_end fresh _ (SignPiece (Read Tilde)) k e refl
grown_Tilde fresh (c ∷ cs) k e = cc

read_ExclamationEqual : (fresh : Bool) (cs : List ℕ) (k : Kind) → accepted (InSign (Read ExclamationEqual)) cs ≡ Some k → is_piece fresh k (33 ∷ 61 ∷ cs) ≡ true
unfolding behind accepts behind_punctuator behind_sign behind_dot behind_minus behind_plus behind_ampersand behind_bar behind_slash behind_percent behind_less behind_greater only
read_ExclamationEqual fresh [] k e = at_end fresh _ (SignPiece (Read ExclamationEqual)) k e refl
read_ExclamationEqual fresh (c ∷ cs) k e = cc

grown_Exclamation : (fresh : Bool) (cs : List ℕ) (k : Kind) → accepted (InSign (Read Exclamation)) cs ≡ Some k → is_piece fresh k (33 ∷ cs) ≡ true
unfolding behind accepts behind_punctuator behind_sign behind_dot behind_minus behind_plus behind_ampersand behind_bar behind_slash behind_percent behind_less behind_greater only
grown_Exclamation fresh [] k = λ e. at_end fresh _ (SignPiece (Read Exclamation)) k e refl
grown_Exclamation fresh (c ∷ cs) k =
    cond_both (c == 61) _ _ (λ s. on_some s (λ t. accepted t cs) ≡ Some k → is_piece fresh k (33 ∷ c ∷ cs) ≡ true) (λ is e. through fresh k (33 ∷ []) c 61 cs is (read_ExclamationEqual fresh cs k e)) (λ _.
    λ e. cc)

read_PercentEqual : (fresh : Bool) (cs : List ℕ) (k : Kind) → accepted (InSign (Read PercentEqual)) cs ≡ Some k → is_piece fresh k (37 ∷ 61 ∷ cs) ≡ true
unfolding behind accepts behind_punctuator behind_sign behind_dot behind_minus behind_plus behind_ampersand behind_bar behind_slash behind_percent behind_less behind_greater only
read_PercentEqual fresh [] k e = at_end fresh _ (SignPiece (Read PercentEqual)) k e refl
read_PercentEqual fresh (c ∷ cs) k e = cc

sign_PercentGreater : (fresh : Bool) (cs : List ℕ) (k : Kind) → accepted (InSign PercentGreater) cs ≡ Some k → is_piece fresh k (37 ∷ 62 ∷ cs) ≡ true
unfolding behind accepts behind_punctuator behind_sign behind_dot behind_minus behind_plus behind_ampersand behind_bar behind_slash behind_percent behind_less behind_greater only
sign_PercentGreater fresh [] k e = at_end fresh _ (SignPiece PercentGreater) k e refl
sign_PercentGreater fresh (c ∷ cs) k e = cc

sign_TwoPercentColons : (fresh : Bool) (cs : List ℕ) (k : Kind) → accepted (InSign TwoPercentColons) cs ≡ Some k → is_piece fresh k (37 ∷ 58 ∷ 37 ∷ 58 ∷ cs) ≡ true
unfolding behind accepts behind_punctuator behind_sign behind_dot behind_minus behind_plus behind_ampersand behind_bar behind_slash behind_percent behind_less behind_greater only
sign_TwoPercentColons fresh [] k e = at_end fresh _ (SignPiece TwoPercentColons) k e refl
sign_TwoPercentColons fresh (c ∷ cs) k e = cc

percent_colon_percent : (fresh : Bool) (cs : List ℕ) (k : Kind) → accepted PercentColonPercent cs ≡ Some k → is_piece fresh k (37 ∷ 58 ∷ 37 ∷ cs) ≡ true
unfolding behind accepts behind_punctuator behind_sign behind_dot behind_minus behind_plus behind_ampersand behind_bar behind_slash behind_percent behind_less behind_greater only
percent_colon_percent fresh [] k = λ e. cc
percent_colon_percent fresh (c ∷ cs) k =
    cond_both (c == 58) _ _ (λ s. on_some s (λ t. accepted t cs) ≡ Some k → is_piece fresh k (37 ∷ 58 ∷ 37 ∷ c ∷ cs) ≡ true)
    (λ is e. through fresh k (37 ∷ 58 ∷ 37 ∷ []) c 58 cs is (sign_TwoPercentColons fresh cs k e)) (λ _ e. cc)

percent_colon : (fresh : Bool) (cs : List ℕ) (k : Kind) → accepted (InSign PercentColon) cs ≡ Some k → is_piece fresh k (37 ∷ 58 ∷ cs) ≡ true
unfolding behind accepts behind_punctuator behind_sign behind_dot behind_minus behind_plus behind_ampersand behind_bar behind_slash behind_percent behind_less behind_greater only
percent_colon fresh [] k = λ e. at_end fresh _ (SignPiece PercentColon) k e refl
percent_colon fresh (c ∷ cs) k =
    cond_both (c == 37) _ _ (λ s. on_some s (λ t. accepted t cs) ≡ Some k → is_piece fresh k (37 ∷ 58 ∷ c ∷ cs) ≡ true)
    (λ is e. through fresh k (37 ∷ 58 ∷ []) c 37 cs is (percent_colon_percent fresh cs k e)) (λ _ e. cc)

grown_Percent : (fresh : Bool) (cs : List ℕ) (k : Kind) → accepted (InSign (Read Percent)) cs ≡ Some k → is_piece fresh k (37 ∷ cs) ≡ true
unfolding behind accepts behind_punctuator behind_sign behind_dot behind_minus behind_plus behind_ampersand behind_bar behind_slash behind_percent behind_less behind_greater only
grown_Percent fresh [] k = λ e. at_end fresh _ (SignPiece (Read Percent)) k e refl
grown_Percent fresh (c ∷ cs) k =
    cond_both (c == 61) _ _ (λ s. on_some s (λ t. accepted t cs) ≡ Some k → is_piece fresh k (37 ∷ c ∷ cs) ≡ true) (λ is e. through fresh k (37 ∷ []) c 61 cs is (read_PercentEqual fresh cs k e)) (λ _.
    cond_both (c == 62) _ _ (λ s. on_some s (λ t. accepted t cs) ≡ Some k → is_piece fresh k (37 ∷ c ∷ cs) ≡ true) (λ is e. through fresh k (37 ∷ []) c 62 cs is (sign_PercentGreater fresh cs k e)) (λ _.
    cond_both (c == 58) _ _ (λ s. on_some s (λ t. accepted t cs) ≡ Some k → is_piece fresh k (37 ∷ c ∷ cs) ≡ true) (λ is e. through fresh k (37 ∷ []) c 58 cs is (percent_colon fresh cs k e)) (λ _.
    λ e. cc)))

read_LeftShiftEqual : (fresh : Bool) (cs : List ℕ) (k : Kind) → accepted (InSign (Read LeftShiftEqual)) cs ≡ Some k → is_piece fresh k (60 ∷ 60 ∷ 61 ∷ cs) ≡ true
unfolding behind accepts behind_punctuator behind_sign behind_dot behind_minus behind_plus behind_ampersand behind_bar behind_slash behind_percent behind_less behind_greater only
read_LeftShiftEqual fresh [] k e = at_end fresh _ (SignPiece (Read LeftShiftEqual)) k e refl
read_LeftShiftEqual fresh (c ∷ cs) k e = cc

grown_LeftShift : (fresh : Bool) (cs : List ℕ) (k : Kind) → accepted (InSign (Read LeftShift)) cs ≡ Some k → is_piece fresh k (60 ∷ 60 ∷ cs) ≡ true
unfolding behind accepts behind_punctuator behind_sign behind_dot behind_minus behind_plus behind_ampersand behind_bar behind_slash behind_percent behind_less behind_greater only
grown_LeftShift fresh [] k = λ e. at_end fresh _ (SignPiece (Read LeftShift)) k e refl
grown_LeftShift fresh (c ∷ cs) k =
    cond_both (c == 61) _ _ (λ s. on_some s (λ t. accepted t cs) ≡ Some k → is_piece fresh k (60 ∷ 60 ∷ c ∷ cs) ≡ true) (λ is e. through fresh k (60 ∷ 60 ∷ []) c 61 cs is (read_LeftShiftEqual fresh cs k e)) (λ _.
    λ e. cc)

read_LessEqual : (fresh : Bool) (cs : List ℕ) (k : Kind) → accepted (InSign (Read LessEqual)) cs ≡ Some k → is_piece fresh k (60 ∷ 61 ∷ cs) ≡ true
unfolding behind accepts behind_punctuator behind_sign behind_dot behind_minus behind_plus behind_ampersand behind_bar behind_slash behind_percent behind_less behind_greater only
read_LessEqual fresh [] k e = at_end fresh _ (SignPiece (Read LessEqual)) k e refl
read_LessEqual fresh (c ∷ cs) k e = cc

sign_LessColon : (fresh : Bool) (cs : List ℕ) (k : Kind) → accepted (InSign LessColon) cs ≡ Some k → is_piece fresh k (60 ∷ 58 ∷ cs) ≡ true
unfolding behind accepts behind_punctuator behind_sign behind_dot behind_minus behind_plus behind_ampersand behind_bar behind_slash behind_percent behind_less behind_greater only
sign_LessColon fresh [] k e = at_end fresh _ (SignPiece LessColon) k e refl
sign_LessColon fresh (c ∷ cs) k e = cc

sign_LessPercent : (fresh : Bool) (cs : List ℕ) (k : Kind) → accepted (InSign LessPercent) cs ≡ Some k → is_piece fresh k (60 ∷ 37 ∷ cs) ≡ true
unfolding behind accepts behind_punctuator behind_sign behind_dot behind_minus behind_plus behind_ampersand behind_bar behind_slash behind_percent behind_less behind_greater only
sign_LessPercent fresh [] k e = at_end fresh _ (SignPiece LessPercent) k e refl
sign_LessPercent fresh (c ∷ cs) k e = cc

grown_Less : (fresh : Bool) (cs : List ℕ) (k : Kind) → accepted (InSign (Read Less)) cs ≡ Some k → is_piece fresh k (60 ∷ cs) ≡ true
unfolding behind accepts behind_punctuator behind_sign behind_dot behind_minus behind_plus behind_ampersand behind_bar behind_slash behind_percent behind_less behind_greater only
grown_Less fresh [] k = λ e. at_end fresh _ (SignPiece (Read Less)) k e refl
grown_Less fresh (c ∷ cs) k =
    cond_both (c == 60) _ _ (λ s. on_some s (λ t. accepted t cs) ≡ Some k → is_piece fresh k (60 ∷ c ∷ cs) ≡ true) (λ is e. through fresh k (60 ∷ []) c 60 cs is (grown_LeftShift fresh cs k e)) (λ _.
    cond_both (c == 61) _ _ (λ s. on_some s (λ t. accepted t cs) ≡ Some k → is_piece fresh k (60 ∷ c ∷ cs) ≡ true) (λ is e. through fresh k (60 ∷ []) c 61 cs is (read_LessEqual fresh cs k e)) (λ _.
    cond_both (c == 58) _ _ (λ s. on_some s (λ t. accepted t cs) ≡ Some k → is_piece fresh k (60 ∷ c ∷ cs) ≡ true) (λ is e. through fresh k (60 ∷ []) c 58 cs is (sign_LessColon fresh cs k e)) (λ _.
    cond_both (c == 37) _ _ (λ s. on_some s (λ t. accepted t cs) ≡ Some k → is_piece fresh k (60 ∷ c ∷ cs) ≡ true) (λ is e. through fresh k (60 ∷ []) c 37 cs is (sign_LessPercent fresh cs k e)) (λ _.
    λ e. cc))))

read_RightShiftEqual : (fresh : Bool) (cs : List ℕ) (k : Kind) → accepted (InSign (Read RightShiftEqual)) cs ≡ Some k → is_piece fresh k (62 ∷ 62 ∷ 61 ∷ cs) ≡ true
unfolding behind accepts behind_punctuator behind_sign behind_dot behind_minus behind_plus behind_ampersand behind_bar behind_slash behind_percent behind_less behind_greater only
read_RightShiftEqual fresh [] k e = at_end fresh _ (SignPiece (Read RightShiftEqual)) k e refl
read_RightShiftEqual fresh (c ∷ cs) k e = cc

grown_RightShift : (fresh : Bool) (cs : List ℕ) (k : Kind) → accepted (InSign (Read RightShift)) cs ≡ Some k → is_piece fresh k (62 ∷ 62 ∷ cs) ≡ true
unfolding behind accepts behind_punctuator behind_sign behind_dot behind_minus behind_plus behind_ampersand behind_bar behind_slash behind_percent behind_less behind_greater only
grown_RightShift fresh [] k = λ e. at_end fresh _ (SignPiece (Read RightShift)) k e refl
grown_RightShift fresh (c ∷ cs) k =
    cond_both (c == 61) _ _ (λ s. on_some s (λ t. accepted t cs) ≡ Some k → is_piece fresh k (62 ∷ 62 ∷ c ∷ cs) ≡ true) (λ is e. through fresh k (62 ∷ 62 ∷ []) c 61 cs is (read_RightShiftEqual fresh cs k e)) (λ _.
    λ e. cc)

read_GreaterEqual : (fresh : Bool) (cs : List ℕ) (k : Kind) → accepted (InSign (Read GreaterEqual)) cs ≡ Some k → is_piece fresh k (62 ∷ 61 ∷ cs) ≡ true
unfolding behind accepts behind_punctuator behind_sign behind_dot behind_minus behind_plus behind_ampersand behind_bar behind_slash behind_percent behind_less behind_greater only
read_GreaterEqual fresh [] k e = at_end fresh _ (SignPiece (Read GreaterEqual)) k e refl
read_GreaterEqual fresh (c ∷ cs) k e = cc

grown_Greater : (fresh : Bool) (cs : List ℕ) (k : Kind) → accepted (InSign (Read Greater)) cs ≡ Some k → is_piece fresh k (62 ∷ cs) ≡ true
unfolding behind accepts behind_punctuator behind_sign behind_dot behind_minus behind_plus behind_ampersand behind_bar behind_slash behind_percent behind_less behind_greater only
grown_Greater fresh [] k = λ e. at_end fresh _ (SignPiece (Read Greater)) k e refl
grown_Greater fresh (c ∷ cs) k =
    cond_both (c == 62) _ _ (λ s. on_some s (λ t. accepted t cs) ≡ Some k → is_piece fresh k (62 ∷ c ∷ cs) ≡ true) (λ is e. through fresh k (62 ∷ []) c 62 cs is (grown_RightShift fresh cs k e)) (λ _.
    cond_both (c == 61) _ _ (λ s. on_some s (λ t. accepted t cs) ≡ Some k → is_piece fresh k (62 ∷ c ∷ cs) ≡ true) (λ is e. through fresh k (62 ∷ []) c 61 cs is (read_GreaterEqual fresh cs k e)) (λ _.
    λ e. cc))

read_CaretEqual : (fresh : Bool) (cs : List ℕ) (k : Kind) → accepted (InSign (Read CaretEqual)) cs ≡ Some k → is_piece fresh k (94 ∷ 61 ∷ cs) ≡ true
unfolding behind accepts behind_punctuator behind_sign behind_dot behind_minus behind_plus behind_ampersand behind_bar behind_slash behind_percent behind_less behind_greater only
read_CaretEqual fresh [] k e = at_end fresh _ (SignPiece (Read CaretEqual)) k e refl
read_CaretEqual fresh (c ∷ cs) k e = cc

grown_Caret : (fresh : Bool) (cs : List ℕ) (k : Kind) → accepted (InSign (Read Caret)) cs ≡ Some k → is_piece fresh k (94 ∷ cs) ≡ true
unfolding behind accepts behind_punctuator behind_sign behind_dot behind_minus behind_plus behind_ampersand behind_bar behind_slash behind_percent behind_less behind_greater only
grown_Caret fresh [] k = λ e. at_end fresh _ (SignPiece (Read Caret)) k e refl
grown_Caret fresh (c ∷ cs) k =
    cond_both (c == 61) _ _ (λ s. on_some s (λ t. accepted t cs) ≡ Some k → is_piece fresh k (94 ∷ c ∷ cs) ≡ true) (λ is e. through fresh k (94 ∷ []) c 61 cs is (read_CaretEqual fresh cs k e)) (λ _.
    λ e. cc)

read_BarBar : (fresh : Bool) (cs : List ℕ) (k : Kind) → accepted (InSign (Read BarBar)) cs ≡ Some k → is_piece fresh k (124 ∷ 124 ∷ cs) ≡ true
unfolding behind accepts behind_punctuator behind_sign behind_dot behind_minus behind_plus behind_ampersand behind_bar behind_slash behind_percent behind_less behind_greater only
read_BarBar fresh [] k e = at_end fresh _ (SignPiece (Read BarBar)) k e refl
read_BarBar fresh (c ∷ cs) k e = cc

read_BarEqual : (fresh : Bool) (cs : List ℕ) (k : Kind) → accepted (InSign (Read BarEqual)) cs ≡ Some k → is_piece fresh k (124 ∷ 61 ∷ cs) ≡ true
unfolding behind accepts behind_punctuator behind_sign behind_dot behind_minus behind_plus behind_ampersand behind_bar behind_slash behind_percent behind_less behind_greater only
read_BarEqual fresh [] k e = at_end fresh _ (SignPiece (Read BarEqual)) k e refl
read_BarEqual fresh (c ∷ cs) k e = cc

grown_Bar : (fresh : Bool) (cs : List ℕ) (k : Kind) → accepted (InSign (Read Bar)) cs ≡ Some k → is_piece fresh k (124 ∷ cs) ≡ true
unfolding behind accepts behind_punctuator behind_sign behind_dot behind_minus behind_plus behind_ampersand behind_bar behind_slash behind_percent behind_less behind_greater only
grown_Bar fresh [] k = λ e. at_end fresh _ (SignPiece (Read Bar)) k e refl
grown_Bar fresh (c ∷ cs) k =
    cond_both (c == 124) _ _ (λ s. on_some s (λ t. accepted t cs) ≡ Some k → is_piece fresh k (124 ∷ c ∷ cs) ≡ true) (λ is e. through fresh k (124 ∷ []) c 124 cs is (read_BarBar fresh cs k e)) (λ _.
    cond_both (c == 61) _ _ (λ s. on_some s (λ t. accepted t cs) ≡ Some k → is_piece fresh k (124 ∷ c ∷ cs) ≡ true) (λ is e. through fresh k (124 ∷ []) c 61 cs is (read_BarEqual fresh cs k e)) (λ _.
    λ e. cc))

grown_Question : (fresh : Bool) (cs : List ℕ) (k : Kind) → accepted (InSign (Read Question)) cs ≡ Some k → is_piece fresh k (63 ∷ cs) ≡ true
unfolding behind accepts behind_punctuator behind_sign behind_dot behind_minus behind_plus behind_ampersand behind_bar behind_slash behind_percent behind_less behind_greater only
grown_Question fresh [] k e = at_end fresh _ (SignPiece (Read Question)) k e refl
grown_Question fresh (c ∷ cs) k e = cc

sign_ColonGreater : (fresh : Bool) (cs : List ℕ) (k : Kind) → accepted (InSign ColonGreater) cs ≡ Some k → is_piece fresh k (58 ∷ 62 ∷ cs) ≡ true
unfolding behind accepts behind_punctuator behind_sign behind_dot behind_minus behind_plus behind_ampersand behind_bar behind_slash behind_percent behind_less behind_greater only
sign_ColonGreater fresh [] k e = at_end fresh _ (SignPiece ColonGreater) k e refl
sign_ColonGreater fresh (c ∷ cs) k e = cc

grown_Colon : (fresh : Bool) (cs : List ℕ) (k : Kind) → accepted (InSign (Read Colon)) cs ≡ Some k → is_piece fresh k (58 ∷ cs) ≡ true
unfolding behind accepts behind_punctuator behind_sign behind_dot behind_minus behind_plus behind_ampersand behind_bar behind_slash behind_percent behind_less behind_greater only
grown_Colon fresh [] k = λ e. at_end fresh _ (SignPiece (Read Colon)) k e refl
grown_Colon fresh (c ∷ cs) k =
    cond_both (c == 62) _ _ (λ s. on_some s (λ t. accepted t cs) ≡ Some k → is_piece fresh k (58 ∷ c ∷ cs) ≡ true) (λ is e. through fresh k (58 ∷ []) c 62 cs is (sign_ColonGreater fresh cs k e)) (λ _.
    λ e. cc)

grown_Semicolon : (fresh : Bool) (cs : List ℕ) (k : Kind) → accepted (InSign (Read Semicolon)) cs ≡ Some k → is_piece fresh k (59 ∷ cs) ≡ true
unfolding behind accepts behind_punctuator behind_sign behind_dot behind_minus behind_plus behind_ampersand behind_bar behind_slash behind_percent behind_less behind_greater only
grown_Semicolon fresh [] k e = at_end fresh _ (SignPiece (Read Semicolon)) k e refl
grown_Semicolon fresh (c ∷ cs) k e = cc

read_EqualEqual : (fresh : Bool) (cs : List ℕ) (k : Kind) → accepted (InSign (Read EqualEqual)) cs ≡ Some k → is_piece fresh k (61 ∷ 61 ∷ cs) ≡ true
unfolding behind accepts behind_punctuator behind_sign behind_dot behind_minus behind_plus behind_ampersand behind_bar behind_slash behind_percent behind_less behind_greater only
read_EqualEqual fresh [] k e = at_end fresh _ (SignPiece (Read EqualEqual)) k e refl
read_EqualEqual fresh (c ∷ cs) k e = cc

grown_Equal : (fresh : Bool) (cs : List ℕ) (k : Kind) → accepted (InSign (Read Equal)) cs ≡ Some k → is_piece fresh k (61 ∷ cs) ≡ true
unfolding behind accepts behind_punctuator behind_sign behind_dot behind_minus behind_plus behind_ampersand behind_bar behind_slash behind_percent behind_less behind_greater only
grown_Equal fresh [] k = λ e. at_end fresh _ (SignPiece (Read Equal)) k e refl
grown_Equal fresh (c ∷ cs) k =
    cond_both (c == 61) _ _ (λ s. on_some s (λ t. accepted t cs) ≡ Some k → is_piece fresh k (61 ∷ c ∷ cs) ≡ true) (λ is e. through fresh k (61 ∷ []) c 61 cs is (read_EqualEqual fresh cs k e)) (λ _.
    λ e. cc)

grown_Comma : (fresh : Bool) (cs : List ℕ) (k : Kind) → accepted (InSign (Read Comma)) cs ≡ Some k → is_piece fresh k (44 ∷ cs) ≡ true
unfolding behind accepts behind_punctuator behind_sign behind_dot behind_minus behind_plus behind_ampersand behind_bar behind_slash behind_percent behind_less behind_greater only
grown_Comma fresh [] k e = at_end fresh _ (SignPiece (Read Comma)) k e refl
grown_Comma fresh (c ∷ cs) k e = cc

read_Ellipsis : (fresh : Bool) (cs : List ℕ) (k : Kind) → accepted (InSign (Read Ellipsis)) cs ≡ Some k → is_piece fresh k (46 ∷ 46 ∷ 46 ∷ cs) ≡ true
unfolding behind accepts behind_punctuator behind_sign behind_dot behind_minus behind_plus behind_ampersand behind_bar behind_slash behind_percent behind_less behind_greater only
read_Ellipsis fresh [] k e = at_end fresh _ (SignPiece (Read Ellipsis)) k e refl
read_Ellipsis fresh (c ∷ cs) k e = cc

read_SlashEqual : (fresh : Bool) (cs : List ℕ) (k : Kind) → accepted (InSign (Read SlashEqual)) cs ≡ Some k → is_piece fresh k (47 ∷ 61 ∷ cs) ≡ true
unfolding behind accepts behind_punctuator behind_sign behind_dot behind_minus behind_plus behind_ampersand behind_bar behind_slash behind_percent behind_less behind_greater only
read_SlashEqual fresh [] k e = at_end fresh _ (SignPiece (Read SlashEqual)) k e refl
read_SlashEqual fresh (c ∷ cs) k e = cc

two_dots : (fresh : Bool) (cs : List ℕ) (k : Kind) → accepted TwoDots cs ≡ Some k → is_piece fresh k (46 ∷ 46 ∷ cs) ≡ true
unfolding behind accepts behind_punctuator behind_sign behind_dot behind_minus behind_plus behind_ampersand behind_bar behind_slash behind_percent behind_less behind_greater only
two_dots fresh [] k = λ e. cc
two_dots fresh (c ∷ cs) k =
    cond_both (c == 46) _ _ (λ s. on_some s (λ t. accepted t cs) ≡ Some k → is_piece fresh k (46 ∷ 46 ∷ c ∷ cs) ≡ true)
    (λ is e. through fresh k (46 ∷ 46 ∷ []) c 46 cs is (read_Ellipsis fresh cs k e)) (λ _ e. cc)

grown_Dot : (fresh : Bool) (cs : List ℕ) (k : Kind) → accepted (InSign (Read Dot)) cs ≡ Some k → is_piece fresh k (46 ∷ cs) ≡ true
unfolding behind accepts behind_punctuator behind_sign behind_dot behind_minus behind_plus behind_ampersand behind_bar behind_slash behind_percent behind_less behind_greater only
grown_Dot fresh [] k = λ e. at_end fresh _ (SignPiece (Read Dot)) k e refl
grown_Dot fresh (c ∷ cs) k =
    cond_both (c == 46) _ _ (λ s. on_some s (λ t. accepted t cs) ≡ Some k → is_piece fresh k (46 ∷ c ∷ cs) ≡ true)
    (λ is e. through fresh k (46 ∷ []) c 46 cs is (two_dots fresh cs k e)) (λ _.
    cond_both (is_ascii_digit c) _ _ (λ s. on_some s (λ t. accepted t cs) ≡ Some k → is_piece fresh k (46 ∷ c ∷ cs) ≡ true)
    (λ is e. conclude fresh (46 ∷ c ∷ cs) _ _ NumberPiece k (number false Plain cs) e (λ all. and_from _ _ is all)) (λ _ e. cc))

line_commented : (fresh : Bool) (cs : List ℕ) (k : Kind) → accepted LineComment cs ≡ Some k → is_piece fresh k (47 ∷ 47 ∷ cs) ≡ true
line_commented fresh cs k e = conclude fresh (47 ∷ 47 ∷ cs) _ _ CommentPiece k (line_comment cs) e (λ all. all)

commented : (fresh : Bool) (cs : List ℕ) (k : Kind) → accepted CommentOpen cs ≡ Some k → is_piece fresh k (47 ∷ 42 ∷ cs) ≡ true
unfolding behind accepts behind_punctuator behind_sign behind_dot behind_minus behind_plus behind_ampersand behind_bar behind_slash behind_percent behind_less behind_greater only
commented fresh [] k e = at_end fresh _ Broken k e refl
commented fresh (c ∷ cs) k e = conclude fresh (47 ∷ 42 ∷ c ∷ cs) _ _ CommentPiece k (comment_open c cs) e (λ all. or_left _ _ all)

grown_Slash : (fresh : Bool) (cs : List ℕ) (k : Kind) → accepted (InSign (Read Slash)) cs ≡ Some k → is_piece fresh k (47 ∷ cs) ≡ true
unfolding behind accepts behind_punctuator behind_sign behind_dot behind_minus behind_plus behind_ampersand behind_bar behind_slash behind_percent behind_less behind_greater only
grown_Slash fresh [] k = λ e. at_end fresh _ (SignPiece (Read Slash)) k e refl
grown_Slash fresh (c ∷ cs) k =
    cond_both (c == 42) _ _ (λ s. on_some s (λ t. accepted t cs) ≡ Some k → is_piece fresh k (47 ∷ c ∷ cs) ≡ true)
    (λ is e. through fresh k (47 ∷ []) c 42 cs is (commented fresh cs k e)) (λ _.
    cond_both (c == 47) _ _ (λ s. on_some s (λ t. accepted t cs) ≡ Some k → is_piece fresh k (47 ∷ c ∷ cs) ≡ true)
    (λ is e. through fresh k (47 ∷ []) c 47 cs is (line_commented fresh cs k e)) (λ _.
    cond_both (c == 61) _ _ (λ s. on_some s (λ t. accepted t cs) ≡ Some k → is_piece fresh k (47 ∷ c ∷ cs) ≡ true)
    (λ is e. through fresh k (47 ∷ []) c 61 cs is (read_SlashEqual fresh cs k e)) (λ _ e. cc)))

sign_TwoHashes : (cs : List ℕ) (k : Kind) → accepted (InSign TwoHashes) cs ≡ Some k → is_piece false k (35 ∷ 35 ∷ cs) ≡ true
unfolding behind accepts behind_punctuator behind_sign behind_dot behind_minus behind_plus behind_ampersand behind_bar behind_slash behind_percent behind_less behind_greater only
sign_TwoHashes [] k e = at_end false _ (SignPiece TwoHashes) k e refl
sign_TwoHashes (c ∷ cs) k e = cc

grown_Hash : (cs : List ℕ) (k : Kind) → accepted (InSign Hash) cs ≡ Some k → is_piece false k (35 ∷ cs) ≡ true
unfolding behind accepts behind_punctuator behind_sign behind_dot behind_minus behind_plus behind_ampersand behind_bar behind_slash behind_percent behind_less behind_greater only
grown_Hash [] k = λ e. at_end false _ (SignPiece Hash) k e refl
grown_Hash (c ∷ cs) k =
    cond_both (c == 35) _ _ (λ s. on_some s (λ t. accepted t cs) ≡ Some k → is_piece false k (35 ∷ c ∷ cs) ≡ true)
    (λ is e. through false k (35 ∷ []) c 35 cs is (sign_TwoHashes cs k e)) (λ _ e. cc)

hashed : (fresh : Bool) (cs : List ℕ) (k : Kind) → accepted (if fresh then Line else InSign Hash) cs ≡ Some k → is_piece fresh k (35 ∷ cs) ≡ true
hashed true cs k e = conclude true (35 ∷ cs) _ _ Directive k (line cs) e (λ all. and_from _ _ all refl)
hashed false cs k e = grown_Hash cs k e

-- the punctuator that is one byte

-- what follows for a piece that begins with it
abbrev IsBegun : Bool → ℕ → List ℕ → Kind → Option Punctuator → Type 0
IsBegun fresh b bs k o = accepted (sign_or_stray o) bs ≡ Some k → is_piece fresh k (b ∷ bs) ≡ true

pub punctuated : (fresh : Bool) (b : ℕ) (bs : List ℕ) (k : Kind) → (list_any (λ c. b == c) sign_bytes ≡ false → accepted Stray bs ≡ Some k → is_piece fresh k (b ∷ bs) ≡ true)
    → accepted (sign_or_stray (one_byte_sign b)) bs ≡ Some k → is_piece fresh k (b ∷ bs) ≡ true
unfolding one_byte_sign
punctuated fresh b bs k stray =
    cond_both (b == 91) _ _ (IsBegun fresh b bs k) (λ is e. through fresh k [] b 91 bs is (grown_LeftBracket fresh bs k e)) (λ n0.
    cond_both (b == 93) _ _ (IsBegun fresh b bs k) (λ is e. through fresh k [] b 93 bs is (grown_RightBracket fresh bs k e)) (λ n1.
    cond_both (b == 40) _ _ (IsBegun fresh b bs k) (λ is e. through fresh k [] b 40 bs is (grown_LeftParen fresh bs k e)) (λ n2.
    cond_both (b == 41) _ _ (IsBegun fresh b bs k) (λ is e. through fresh k [] b 41 bs is (grown_RightParen fresh bs k e)) (λ n3.
    cond_both (b == 123) _ _ (IsBegun fresh b bs k) (λ is e. through fresh k [] b 123 bs is (grown_LeftBrace fresh bs k e)) (λ n4.
    cond_both (b == 125) _ _ (IsBegun fresh b bs k) (λ is e. through fresh k [] b 125 bs is (grown_RightBrace fresh bs k e)) (λ n5.
    cond_both (b == 46) _ _ (IsBegun fresh b bs k) (λ is e. through fresh k [] b 46 bs is (grown_Dot fresh bs k e)) (λ n6.
    cond_both (b == 38) _ _ (IsBegun fresh b bs k) (λ is e. through fresh k [] b 38 bs is (grown_Ampersand fresh bs k e)) (λ n7.
    cond_both (b == 42) _ _ (IsBegun fresh b bs k) (λ is e. through fresh k [] b 42 bs is (grown_Star fresh bs k e)) (λ n8.
    cond_both (b == 43) _ _ (IsBegun fresh b bs k) (λ is e. through fresh k [] b 43 bs is (grown_Plus fresh bs k e)) (λ n9.
    cond_both (b == 45) _ _ (IsBegun fresh b bs k) (λ is e. through fresh k [] b 45 bs is (grown_Minus fresh bs k e)) (λ n10.
    cond_both (b == 126) _ _ (IsBegun fresh b bs k) (λ is e. through fresh k [] b 126 bs is (grown_Tilde fresh bs k e)) (λ n11.
    cond_both (b == 33) _ _ (IsBegun fresh b bs k) (λ is e. through fresh k [] b 33 bs is (grown_Exclamation fresh bs k e)) (λ n12.
    cond_both (b == 47) _ _ (IsBegun fresh b bs k) (λ is e. through fresh k [] b 47 bs is (grown_Slash fresh bs k e)) (λ n13.
    cond_both (b == 37) _ _ (IsBegun fresh b bs k) (λ is e. through fresh k [] b 37 bs is (grown_Percent fresh bs k e)) (λ n14.
    cond_both (b == 60) _ _ (IsBegun fresh b bs k) (λ is e. through fresh k [] b 60 bs is (grown_Less fresh bs k e)) (λ n15.
    cond_both (b == 62) _ _ (IsBegun fresh b bs k) (λ is e. through fresh k [] b 62 bs is (grown_Greater fresh bs k e)) (λ n16.
    cond_both (b == 94) _ _ (IsBegun fresh b bs k) (λ is e. through fresh k [] b 94 bs is (grown_Caret fresh bs k e)) (λ n17.
    cond_both (b == 124) _ _ (IsBegun fresh b bs k) (λ is e. through fresh k [] b 124 bs is (grown_Bar fresh bs k e)) (λ n18.
    cond_both (b == 63) _ _ (IsBegun fresh b bs k) (λ is e. through fresh k [] b 63 bs is (grown_Question fresh bs k e)) (λ n19.
    cond_both (b == 58) _ _ (IsBegun fresh b bs k) (λ is e. through fresh k [] b 58 bs is (grown_Colon fresh bs k e)) (λ n20.
    cond_both (b == 59) _ _ (IsBegun fresh b bs k) (λ is e. through fresh k [] b 59 bs is (grown_Semicolon fresh bs k e)) (λ n21.
    cond_both (b == 61) _ _ (IsBegun fresh b bs k) (λ is e. through fresh k [] b 61 bs is (grown_Equal fresh bs k e)) (λ n22.
    cond_both (b == 44) _ _ (IsBegun fresh b bs k) (λ is e. through fresh k [] b 44 bs is (grown_Comma fresh bs k e)) (λ n23.
    stray (or_from _ _ n0 (or_from _ _ n1 (or_from _ _ n2 (or_from _ _ n3 (or_from _ _ n4 (or_from _ _ n5 (or_from _ _ n6 (or_from _ _ n7 (or_from _ _ n8 (or_from _ _ n9 (or_from _ _ n10 (or_from _ _ n11 (or_from _ _ n12 (or_from _ _ n13 (or_from _ _ n14 (or_from _ _ n15 (or_from _ _ n16 (or_from _ _ n17 (or_from _ _ n18 (or_from _ _ n19 (or_from _ _ n20 (or_from _ _ n21 (or_from _ _ n22 (or_from _ _ n23 refl))))))))))))))))))))))))))))))))))))))))))))))))

-- words and literals

prefix_text : (fresh : Bool) (read cs : List ℕ) (k : Kind) → is_broken (read ++ 34 ∷ []) ≡ true → ((ds : List ℕ) → is_literal_rest 34 Plain ds ≡ true → is_piece fresh Text (read ++ 34 ∷ ds) ≡ true)
    → accepted (Opened Double) cs ≡ Some k → is_piece fresh k (read ++ 34 ∷ cs) ≡ true
unfolding accepts
prefix_text fresh read [] k broken whole e = at_end fresh _ Broken k e broken
prefix_text fresh read (c ∷ cs) k broken whole e = conclude fresh (read ++ 34 ∷ (c ∷ cs)) _ _ Text k (opened Double c cs) e (λ all. whole (c ∷ cs) all)

prefix_character : (fresh : Bool) (read cs : List ℕ) (k : Kind) → is_broken (read ++ 39 ∷ []) ≡ true → ((ds : List ℕ) → is_literal_rest 39 Plain ds ≡ true → is_piece fresh Character (read ++ 39 ∷ ds) ≡ true)
    → accepted (Opened Single) cs ≡ Some k → is_piece fresh k (read ++ 39 ∷ cs) ≡ true
unfolding accepts
prefix_character fresh read [] k broken whole e = at_end fresh _ Broken k e broken
prefix_character fresh read (c ∷ cs) k broken whole e = conclude fresh (read ++ 39 ∷ (c ∷ cs)) _ _ Character k (opened Single c cs) e (λ all. whole (c ∷ cs) all)

-- what may go on with a prefix
prefix_more : (fresh : Bool) (read : List ℕ) (c : ℕ) (cs : List ℕ) (k : Kind) → (are_word_parts Plain (c ∷ cs) ≡ true → is_piece fresh WordPiece (read ++ c ∷ cs) ≡ true)
    → on_some (word_at (word_behind Plain c)) (λ t. accepted t cs) ≡ Some k → is_piece fresh k (read ++ c ∷ cs) ≡ true
unfolding behind
prefix_more fresh read c cs k whole e = conclude fresh (read ++ c ∷ cs) _ _ WordPiece k (word Plain (c ∷ cs)) e whole

u8_prefixed : (fresh : Bool) (cs : List ℕ) (k : Kind) → accepted (Prefix SmallU8) cs ≡ Some k → is_piece fresh k (117 ∷ 56 ∷ cs) ≡ true
unfolding behind accepts behind_prefix
u8_prefixed fresh [] k = λ e. at_end fresh _ WordPiece k e refl
u8_prefixed fresh (c ∷ cs) k =
    cond_both (c == 34) _ _ (λ s. on_some s (λ t. accepted t cs) ≡ Some k → is_piece fresh k (117 ∷ 56 ∷ c ∷ cs) ≡ true)
    (λ is e. through fresh k (117 ∷ 56 ∷ []) c 34 cs is (prefix_text fresh (117 ∷ 56 ∷ []) cs k refl (λ ds all. or_left _ _ all) e)) (λ _ e.
    prefix_more fresh (117 ∷ 56 ∷ []) c cs k (λ all. all) e)

u_prefixed : (fresh : Bool) (cs : List ℕ) (k : Kind) → accepted (Prefix SmallU) cs ≡ Some k → is_piece fresh k (117 ∷ cs) ≡ true
unfolding behind accepts behind_prefix
u_prefixed fresh [] k = λ e. at_end fresh _ WordPiece k e refl
u_prefixed fresh (c ∷ cs) k =
    cond_both (c == 34) _ _ (λ s. on_some s (λ t. accepted t cs) ≡ Some k → is_piece fresh k (117 ∷ c ∷ cs) ≡ true)
    (λ is e. through fresh k (117 ∷ []) c 34 cs is (prefix_text fresh (117 ∷ []) cs k refl (λ ds all. or_left _ _ all) e)) (λ _.
    cond_both (c == 39) _ _ (λ s. on_some s (λ t. accepted t cs) ≡ Some k → is_piece fresh k (117 ∷ c ∷ cs) ≡ true)
    (λ is e. through fresh k (117 ∷ []) c 39 cs is (prefix_character fresh (117 ∷ []) cs k refl (λ ds all. or_left _ _ all) e)) (λ _.
    cond_both (c == 56) _ _ (λ s. on_some s (λ t. accepted t cs) ≡ Some k → is_piece fresh k (117 ∷ c ∷ cs) ≡ true)
    (λ is e. through fresh k (117 ∷ []) c 56 cs is (u8_prefixed fresh cs k e)) (λ _ e.
    prefix_more fresh (117 ∷ []) c cs k (λ all. all) e)))

l_prefixed : (fresh : Bool) (cs : List ℕ) (k : Kind) → accepted (Prefix Letter) cs ≡ Some k → is_piece fresh k (76 ∷ cs) ≡ true
unfolding behind accepts behind_prefix
l_prefixed fresh [] k = λ e. at_end fresh _ WordPiece k e refl
l_prefixed fresh (c ∷ cs) k =
    cond_both (c == 34) _ _ (λ s. on_some s (λ t. accepted t cs) ≡ Some k → is_piece fresh k (76 ∷ c ∷ cs) ≡ true)
    (λ is e. through fresh k (76 ∷ []) c 34 cs is (prefix_text fresh (76 ∷ []) cs k refl (λ ds all. or_left _ _ all) e)) (λ _.
    cond_both (c == 39) _ _ (λ s. on_some s (λ t. accepted t cs) ≡ Some k → is_piece fresh k (76 ∷ c ∷ cs) ≡ true)
    (λ is e. through fresh k (76 ∷ []) c 39 cs is (prefix_character fresh (76 ∷ []) cs k refl (λ ds all. or_left _ _ all) e)) (λ _ e.
    prefix_more fresh (76 ∷ []) c cs k (λ all. all) e))

capital_u_prefixed : (fresh : Bool) (cs : List ℕ) (k : Kind) → accepted (Prefix Letter) cs ≡ Some k → is_piece fresh k (85 ∷ cs) ≡ true
unfolding behind accepts behind_prefix
capital_u_prefixed fresh [] k = λ e. at_end fresh _ WordPiece k e refl
capital_u_prefixed fresh (c ∷ cs) k =
    cond_both (c == 34) _ _ (λ s. on_some s (λ t. accepted t cs) ≡ Some k → is_piece fresh k (85 ∷ c ∷ cs) ≡ true)
    (λ is e. through fresh k (85 ∷ []) c 34 cs is (prefix_text fresh (85 ∷ []) cs k refl (λ ds all. or_left _ _ all) e)) (λ _.
    cond_both (c == 39) _ _ (λ s. on_some s (λ t. accepted t cs) ≡ Some k → is_piece fresh k (85 ∷ c ∷ cs) ≡ true)
    (λ is e. through fresh k (85 ∷ []) c 39 cs is (prefix_character fresh (85 ∷ []) cs k refl (λ ds all. or_left _ _ all) e)) (λ _ e.
    prefix_more fresh (85 ∷ []) c cs k (λ all. all) e))

letter_prefixed : (fresh : Bool) (b : ℕ) (cs : List ℕ) (k : Kind) → (b == 76 || b == 85) ≡ true → accepted (Prefix Letter) cs ≡ Some k → is_piece fresh k (b ∷ cs) ≡ true
letter_prefixed fresh b cs k is e =
    elim (or_cases (b == 76) (b == 85) is) as (λ _. is_piece fresh k (b ∷ cs) ≡ true) [
      | inl l ↦ through fresh k [] b 76 cs l (l_prefixed fresh cs k e)
      | inr u ↦ through fresh k [] b 85 cs u (capital_u_prefixed fresh cs k e)
    ]

slashed : (fresh : Bool) (cs : List ℕ) (k : Kind) → accepted Backslash cs ≡ Some k → is_piece fresh k (92 ∷ cs) ≡ true
unfolding accepts
slashed fresh [] k e = at_end fresh _ Broken k e refl
slashed fresh (c ∷ cs) k e = conclude fresh (92 ∷ c ∷ cs) _ _ WordPiece k (backslash c cs) e (λ all. all)

pub word_head : (b : ℕ) (bs : List ℕ) → is_word_byte b ≡ true → are_word_parts Plain (b ∷ bs) ≡ are_word_parts Plain bs
word_head b bs is = ap (λ t. on_mode (if t then Some Plain else (if b == 92 then Some Escaped else None)) (λ m. are_word_parts m bs)) is

nondigit_digit : (b : ℕ) → is_nondigit b ≡ true → not (is_ascii_digit b) ≡ true
nondigit_digit b is = grind (arith, nat_tests)

nondigit_word : (b : ℕ) → is_nondigit b ≡ true → is_word_byte b ≡ true
nondigit_word b is = or_left _ _ is

worded : (fresh : Bool) (b : ℕ) (bs : List ℕ) (k : Kind) → is_nondigit b ≡ true → accepted (Word Plain) bs ≡ Some k → is_piece fresh k (b ∷ bs) ≡ true
worded fresh b bs k is e = conclude fresh (b ∷ bs) _ _ WordPiece k (word Plain bs) e (λ all. and_from _ _ (nondigit_digit b is) (word_head b bs (nondigit_word b is) ∙ all))

is_numbered : (b : ℕ) (bs : List ℕ) → is_ascii_digit b ≡ true → are_number_parts false Plain bs ≡ true → is_number (b ∷ bs) ≡ true
is_numbered b [] is all = is
is_numbered b (c ∷ cs) is all = or_left _ _ (and_from _ _ is all)

numbered : (fresh : Bool) (b : ℕ) (bs : List ℕ) (k : Kind) → is_ascii_digit b ≡ true → accepted (Number Plain false) bs ≡ Some k → is_piece fresh k (b ∷ bs) ≡ true
numbered fresh b bs k is e = conclude fresh (b ∷ bs) _ _ NumberPiece k (number false Plain bs) e (λ all. is_numbered b bs is all)

no_bytes : (bs : List ℕ) → is_nil bs ≡ true → bytes_eq bs [] ≡ true
no_bytes [] is = refl
no_bytes (b ∷ bs) is = cc

strayed : (fresh : Bool) (b : ℕ) (bs : List ℕ) (k : Kind) → is_stray b ≡ true → accepted Stray bs ≡ Some k → is_piece fresh k (b ∷ bs) ≡ true
unfolding behind accepts
strayed fresh b [] k is e = at_end fresh _ Broken k e (or_left _ _ (and_from _ _ is refl))
strayed fresh b (c ∷ cs) k is e = cc

no_word : (b : ℕ) → is_nondigit b ≡ false → is_ascii_digit b ≡ false → is_word_byte b ≡ false
no_word b n d = or_from _ _ n d

pub sound : (fresh : Bool) (b : ℕ) (bs : List ℕ) (k : Kind) → accepted (begins fresh b) bs ≡ Some k → is_piece fresh k (b ∷ bs) ≡ true
unfolding begins begins_sign
sound fresh b bs k =
    let F : State → Type 0 = λ s. accepted s bs ≡ Some k → is_piece fresh k (b ∷ bs) ≡ true in
    cond_both (is_blank b) _ _ F (λ is e. conclude fresh (b ∷ bs) _ _ Blank k (blanks bs) e (λ all. and_from _ _ is all)) (λ nblank.
    cond_both (b == 10) _ _ F (λ is e. conclude fresh (b ∷ bs) _ _ LineEndPiece k (line_end bs) e (λ all. and_from _ _ is (no_bytes bs all))) (λ nfeed.
    cond_both (b == 76 || b == 85) _ _ F (λ is e. letter_prefixed fresh b bs k is e) (λ _.
    cond_both (b == 117) _ _ F (λ is e. through fresh k [] b 117 bs is (u_prefixed fresh bs k e)) (λ _.
    cond_both (is_nondigit b) _ _ F (λ is e. worded fresh b bs k is e) (λ nnondigit.
    cond_both (is_ascii_digit b) _ _ F (λ is e. numbered fresh b bs k is e) (λ ndigit.
    cond_both (b == 39) _ _ F (λ is e. through fresh k [] b 39 bs is (prefix_character fresh [] bs k refl (λ ds all. or_left _ _ all) e)) (λ nsingle.
    cond_both (b == 34) _ _ F (λ is e. through fresh k [] b 34 bs is (prefix_text fresh [] bs k refl (λ ds all. or_left _ _ all) e)) (λ ndouble.
    cond_both (b == 92) _ _ F (λ is e. through fresh k [] b 92 bs is (slashed fresh bs k e)) (λ _.
    cond_both (b == 35) _ _ F (λ is e. through fresh k [] b 35 bs is (hashed fresh bs k e)) (λ nhash e.
    punctuated fresh b bs k (λ none. strayed fresh b bs k
    (ap not (or_from _ _ nblank (or_from _ _ nfeed (or_from _ _ (no_word b nnondigit ndigit) (or_from _ _ nsingle (or_from _ _ ndouble (or_from _ _ nhash none))))))))
    e))))))))))
