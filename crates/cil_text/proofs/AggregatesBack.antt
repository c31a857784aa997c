-- Device: the reading of aggregates gives back those of a program from its lines.
use Rattle.std.proofs.Common.{◌≡◌, ℕ, suc, zero, ◌+◌, ◌≤◌, ◌||◌, not, Bool, true, false, cond, List, [], ◌∷◌, ◌++◌, length, map, codes, Option, Some, None, refl, sym, ap, ◌∙◌, subst, arith, append_assoc}
use Rattle.std.specs.Prelude.{ℤ, pos}
use Rattle.std.specs.List.{list_any}
use Rattle.std.specs.Option.{option_map, option_and_then}
use Rattle.std.specs.Str.{bytes_eq}
use Rattle.std.proofs.lemmas.Slice.Eq.{bytes_eq-Decides}
use Rattle.cil_base.specs.declared.kinds.IntKind.TheVariants as kind
use Rattle.cil_base.specs.Arithmetic.{fits}
use Rattle.cil_base.specs.declared.numbers.NameId.{NameId}
use Rattle.type_graph.specs.declared.aggregates.AggKind.{AggKind}
use Rattle.type_graph.specs.declared.aggregates.AggKind.TheVariants.{Enum}
use Rattle.type_graph.specs.declared.aggregates.Aggregate.{Aggregate}
use Rattle.type_graph.specs.declared.aggregates.Member.{Member}
use Rattle.type_graph.specs.Shapes.{Shape, IntType, shape}
use Rattle.cil_tree.specs.Tree.{Program}
use Rattle.cil_tree.specs.Typing.{is_enum}
use Rattle.cil_tree.specs.View.{text_at}
use Rattle.cil_tree.specs.Lines.{Line}
use Rattle.cil_tree.specs.Names.{is_name, is_among, are_different, tags}
use Rattle.cil_tree.specs.Declarators.{tag_text, tagged, number, declared}
use Rattle.cil_tree.specs.Text.{member_name, closed, enumerator_line, member_line, complete_lines, enum_lines, tag_lines, struct_lines, concat_each}
use Rattle.cil_tree.specs.Programs.{SeenMember, SeenAggregate, seen_member, seen_aggregate}
use Rattle.cil_text.specs.Words.{Word, LeftBrace, RightBrace, Comma, Semicolon, Assign, TagWord, Name, word_of, onto}
use Rattle.cil_text.specs.ReadExps.{is_base}
use Rattle.cil_text.specs.ReadStmts.{read_number}
use Rattle.cil_text.specs.Allowed.{allowed}
use Rattle.cil_text.specs.ReadAggregates.{Lines, enumerator_at, read_enumerator, member_at, read_member, is_close, read_members, opened_tag, lone_tag, enum_with, aggregate_first, read_enums, Tag, tag_first, read_tags, complete_with, incomplete, is_opened, read_structs, tag_of, tag_text_of, all_tags, with_enums, structs_from, aggregates_allowed, first_allowed, read_placed}
use Rattle.cil_text.proofs.WordsBack.{onto_append, both, denied, name_word}
use Rattle.cil_text.proofs.TypesBack.{keyword_word, base_spelled, before, behind, IsShape, declared_words}
use Rattle.cil_text.proofs.DeclsBack.{size, named_back}
use Rattle.cil_text.proofs.ExpsBack.{type_base}
use Rattle.cil_text.proofs.NumbersBack.{number_back}
use Rattle.cil_text.proofs.StmtsBack.{lines_onto, lines_append, closed_words}
use Rattle.cil_text.specs.Known.{bases_of}

-- members

abbrev pub EachMember : (Member → Type 0) → List Member → Type 0
EachMember P [] = Unit {0}
EachMember P (m ∷ ms) = P m × EachMember P ms

abbrev pub IsEnumerator : Program → Member → Type 0
IsEnumerator p m = (is_name (member_name p m) ≡ true) × (fits kind.Int m.value ≡ true) × (shape p.graph.nodes m.ty.of.0 ≡ IntType kind.Int)

abbrev pub IsField : Program → Member → Type 0
IsField p m = (is_name (member_name p m) ≡ true) × IsShape p (shape p.graph.nodes m.ty.of.0) × (m.value ≡ pos 0)

-- the line of a member is read back, and closes nothing
abbrev IsRead : Program → (List Word → Option SeenMember) → (Member → Line) → Member → Type 0
IsRead p of line m = (of (onto (line m) []) ≡ Some (seen_member p m)) × (is_close (onto (line m) []) ≡ false)

members_back : (p : Program) (of : List Word → Option SeenMember) (line : Member → Line) (ms : List Member) (more : Lines) → EachMember (IsRead p of line) ms →
    read_members of (lines_onto (map line ms ++ (codes "}" ∷ codes ";" ∷ []) ∷ []) more) ≡ Some (map (seen_member p) ms, more)
unfolding word_of
members_back p of line [] more read = refl
members_back p of line (m ∷ ms) more read = rw (read.0.1, read.0.0, members_back p of line ms more read.1) refl

enumerator_back : (p : Program) (m : Member) → IsEnumerator p m → IsRead p read_enumerator (enumerator_line p) m
unfolding word_of
enumerator_back p m is = (
  ap (λ (w : Word). read_enumerator (w ∷ Assign ∷ onto (number kind.Int m.value ++ codes "," ∷ []) [])) (name_word (member_name p m) is.0)
      ∙ ap (λ (ws : List Word). option_and_then (enumerator_at (member_name p m)) (read_number ws)) (onto_append (number kind.Int m.value) (codes "," ∷ []) [])
      ∙ ap (option_and_then (enumerator_at (member_name p m))) (number_back kind.Int m.value (Comma ∷ []) is.1 refl)
      ∙ ap (λ b. cond b (Some (record { name = member_name p m; type = IntType kind.Int; value = m.value })) None) is.1
      ∙ ap (λ (s : Shape). Some (record { name = member_name p m; type = s; value = m.value })) (sym is.2),
  ap (λ (w : Word). is_close (w ∷ Assign ∷ onto (number kind.Int m.value ++ codes "," ∷ []) [])) (name_word (member_name p m) is.0),
)

pub base_closes_nothing : (ws : List Word) → is_base ws ≡ true → is_close ws ≡ false
base_closes_nothing [] e = refl
base_closes_nothing (RightBrace ∷ ws) e = absurd (cc e)
base_closes_nothing (w ∷ ws) e = refl

-- a declarator and `;`
pub declared_line : (p : Program) (s : Shape) (name : List ℕ) → IsShape p s → is_name name ≡ true → onto (closed (declared p s (name ∷ []))) [] ≡ base_spelled p s (before s (Name name ∷ behind p s (Semicolon ∷ [])))
declared_line p s name shaped named =
    closed_words (declared p s (name ∷ [])) ∙ declared_words p s (name ∷ []) (Semicolon ∷ []) shaped ∙ ap (λ (w : Word). base_spelled p s (before s (w ∷ behind p s (Semicolon ∷ [])))) (name_word name named)

abbrev pub members_size : Program → List Member → ℕ
members_size p [] = 0
members_size p (m ∷ ms) = 2 + size (shape p.graph.nodes m.ty.of.0) + members_size p ms

field_back : (p : Program) (n : ℕ) (m : Member) → size (shape p.graph.nodes m.ty.of.0) + 2 ≤ n → IsField p m → IsRead p (read_member (bases_of p) n) (member_line p) m
field_back p n m low is =
    let s = shape p.graph.nodes m.ty.of.0 in
    let line = declared_line p s (member_name p m) is.1 is.0 in (
      ap (read_member (bases_of p) n) line
          ∙ ap (option_and_then member_at) (named_back p n s (member_name p m) (Semicolon ∷ []) low is.1 refl)
          ∙ ap (λ (v : ℤ). Some (record { name = member_name p m; type = s; value = v })) (sym is.2),
      ap is_close line ∙ base_closes_nothing (base_spelled p s (before s (Name (member_name p m) ∷ behind p s (Semicolon ∷ [])))) (type_base p s (before s (Name (member_name p m) ∷ behind p s (Semicolon ∷ []))) is.1),
    )

enumerators_back : (p : Program) (ms : List Member) → EachMember (IsEnumerator p) ms → EachMember (IsRead p read_enumerator (enumerator_line p)) ms
enumerators_back p [] is = tt
enumerators_back p (m ∷ ms) is = (enumerator_back p m is.0, enumerators_back p ms is.1)

fields_back : (p : Program) (n : ℕ) (ms : List Member) → members_size p ms ≤ n → EachMember (IsField p) ms → EachMember (IsRead p (read_member (bases_of p) n) (member_line p)) ms
fields_back p n [] low is = tt
fields_back p n (m ∷ ms) low is = (field_back p n m (omega arith) is.0, fields_back p n ms (omega arith) is.1)

-- aggregates

abbrev pub EachAggregate : (Aggregate → Type 0) → List Aggregate → Type 0
EachAggregate P [] = Unit {0}
EachAggregate P (x ∷ xs) = P x × EachAggregate P xs

abbrev pub IsTag : Program → Aggregate → Type 0
IsTag p x = (is_name (tag_text p x) ≡ true) × (option_map (text_at p.names) x.tag ≡ Some (tag_text p x))

abbrev pub IsEnum : Program → Aggregate → Type 0
IsEnum p x = IsTag p x × (x.kind ≡ Enum) × ((ms : List Member) × (x.members ≡ Some ms) × EachMember (IsEnumerator p) ms)

abbrev pub fields_told : Program → Option (List Member) → Type 0
fields_told p None = Unit {0}
fields_told p (Some ms) = EachMember (IsField p) ms

abbrev pub IsStruct : Program → Aggregate → Type 0
IsStruct p x = IsTag p x × (is_enum x.kind ≡ false) × fields_told p x.members

abbrev pub some_size : Program → Option (List Member) → ℕ
some_size p None = 0
some_size p (Some ms) = members_size p ms

abbrev pub aggregates_size : Program → List Aggregate → ℕ
aggregates_size p [] = 0
aggregates_size p (x ∷ xs) = 1 + some_size p x.members + aggregates_size p xs

-- what lines begin with

abbrev pub opened_first : Lines → Option (List ℕ)
opened_first [] = None
opened_first (line ∷ lines) = opened_tag line

abbrev pub lone_first : Lines → Option Tag
lone_first [] = None
lone_first (line ∷ lines) = lone_tag line

heading_words : (p : Program) (x : Aggregate) → IsTag p x → onto (tagged p x ++ codes "{" ∷ []) [] ≡ TagWord x.kind ∷ Name (tag_text p x) ∷ LeftBrace ∷ []
unfolding word_of
heading_words p x is = ap (λ (w : Word). w ∷ word_of (tag_text p x) ∷ LeftBrace ∷ []) (keyword_word x.kind) ∙ ap (λ (w : Word). TagWord x.kind ∷ w ∷ LeftBrace ∷ []) (name_word (tag_text p x) is.0)

lone_words : (p : Program) (x : Aggregate) → IsTag p x → onto (closed (tagged p x)) [] ≡ TagWord x.kind ∷ Name (tag_text p x) ∷ Semicolon ∷ []
unfolding word_of
lone_words p x is = ap (λ (w : Word). w ∷ word_of (tag_text p x) ∷ Semicolon ∷ []) (keyword_word x.kind) ∙ ap (λ (w : Word). TagWord x.kind ∷ w ∷ Semicolon ∷ []) (name_word (tag_text p x) is.0)

-- an enum's lines
abbrev block : Program → (Member → Line) → Aggregate → List Member → List Line
block p line x ms = (tagged p x ++ codes "{" ∷ []) ∷ (map line ms ++ (codes "}" ∷ codes ";" ∷ []) ∷ [])

enum_of : (p : Program) (x : Aggregate) (ms : List Member) → x.kind ≡ Enum → x.members ≡ Some ms → enum_lines p x ≡ block p (enumerator_line p) x ms
enum_of p x ms e f =
    ap (λ (k : AggKind). cond (is_enum k) (complete_lines p (enumerator_line p) x) []) e
    ∙ ap (λ (o : Option (List Member)). elim o as (λ _. List Line) [ None ↦ [] | Some ys ↦ block p (enumerator_line p) x ys ]) f

struct_of : (p : Program) (x : Aggregate) (o : Option (List Member)) → is_enum x.kind ≡ false → x.members ≡ o → struct_lines p x ≡ elim o as (λ _. List Line) [ None ↦ [] | Some ms ↦ block p (member_line p) x ms ]
struct_of p x o e f =
    ap (λ (b : Bool). cond b [] (complete_lines p (member_line p) x)) e
    ∙ ap (λ (u : Option (List Member)). elim u as (λ _. List Line) [ None ↦ [] | Some ys ↦ block p (member_line p) x ys ]) f

enums_end : (n : ℕ) (more : Lines) → opened_first more ≡ None → read_enums n more ≡ Some ([], more)
enums_end zero more e = refl
enums_end (suc n) [] e = refl
enums_end (suc n) (line ∷ lines) e = rw (e, read_enums) refl

seen_enum : (p : Program) (x : Aggregate) (ms : List Member) → IsTag p x → x.kind ≡ Enum → x.members ≡ Some ms → enum_with (tag_text p x) (map (seen_member p) ms) ≡ seen_aggregate p x
seen_enum p x ms tag e f =
    ap (λ (k : AggKind). record { kind = k; tag = Some (tag_text p x); members = Some (map (seen_member p) ms) }) (sym e)
    ∙ ap (λ (t : Option (List ℕ)). record { kind = x.kind; tag = t; members = Some (map (seen_member p) ms) }) (sym tag.1)
    ∙ ap (λ (o : Option (List Member)). record { kind = x.kind; tag = option_map (text_at p.names) x.tag; members = option_map (map (seen_member p)) o }) (sym f)

pub enums_back : (p : Program) (n : ℕ) (xs : List Aggregate) (more : Lines) → length xs ≤ n → EachAggregate (IsEnum p) xs → opened_first more ≡ None →
    read_enums n (lines_onto (concat_each (enum_lines p) xs) more) ≡ Some (map (seen_aggregate p) xs, more)
enums_back p n [] more low is apart = enums_end n more apart
enums_back p zero (x ∷ xs) more low is apart = absurd (omega arith)
enums_back p (suc n) (x ∷ xs) more low is apart =
    let ms = is.0.2.0 in
    let rest = lines_onto (concat_each (enum_lines p) xs) more in
    let others = lines_onto (map (enumerator_line p) ms ++ (codes "}" ∷ codes ";" ∷ []) ∷ []) rest in
    ap (read_enums (suc n)) (
    lines_append (enum_lines p x) (concat_each (enum_lines p) xs) more
    ∙ ap (λ (ls : List Line). lines_onto ls rest) (enum_of p x ms is.0.1 is.0.2.1)
    ∙ ap (λ (ws : List Word). ws ∷ others) (heading_words p x is.0.0))
    ∙ ap (option_and_then (λ (r : List SeenMember × Lines). option_map (aggregate_first (enum_with (tag_text p x) r.0)) (read_enums n r.1))) (members_back p read_enumerator (enumerator_line p) ms rest (enumerators_back p ms is.0.2.2))
    ∙ ap (option_map (aggregate_first (enum_with (tag_text p x) (map (seen_member p) ms)))) (enums_back p n xs more (omega arith) is.1 apart)
    ∙ ap (λ (y : SeenAggregate). Some (y ∷ map (seen_aggregate p) xs, more)) (seen_enum p x ms is.0.0 is.0.1 is.0.2.1)

-- tags

abbrev pub tag_pair : Program → Aggregate → Tag
tag_pair p x = (x.kind, tag_text p x)

tags_end : (more : Lines) → lone_first more ≡ None → read_tags more ≡ ([], more)
tags_end [] e = refl
tags_end (line ∷ lines) e = rw (e, read_tags) refl

abbrev read_lone : Option Tag → List Word → Lines → List Tag × Lines
read_lone o line lines = elim o [ None ↦ ([], line ∷ lines) | Some x ↦ tag_first x (read_tags lines) ]

pub tags_back : (p : Program) (xs : List Aggregate) (more : Lines) → EachAggregate (IsStruct p) xs → lone_first more ≡ None → read_tags (lines_onto (concat_each (tag_lines p) xs) more) ≡ (map (tag_pair p) xs, more)
tags_back p [] more is apart = tags_end more apart
tags_back p (x ∷ xs) more is apart =
    ap read_tags (
    lines_append (tag_lines p x) (concat_each (tag_lines p) xs) more
    ∙ ap (λ (b : Bool). lines_onto (cond b [] (closed (tagged p x) ∷ [])) (lines_onto (concat_each (tag_lines p) xs) more)) is.0.1
    ∙ ap (λ (ws : List Word). ws ∷ lines_onto (concat_each (tag_lines p) xs) more) (lone_words p x is.0.0))
    ∙ ap (λ (b : Bool). read_lone (cond b None (Some (tag_pair p x))) (TagWord x.kind ∷ Name (tag_text p x) ∷ Semicolon ∷ []) (lines_onto (concat_each (tag_lines p) xs) more)) is.0.1
    ∙ ap (tag_first (tag_pair p x)) (tags_back p xs more is.1 apart)

-- structs and unions

pub other_way : (a b : List ℕ) → bytes_eq a b ≡ false → bytes_eq b a ≡ false
other_way a b e = by (bytes_eq b a) refl
  where
    by : (v : Bool) → bytes_eq b a ≡ v → bytes_eq b a ≡ false
    by false h = h
    by true h = let same : bytes_eq a b ≡ true = (bytes_eq-Decides a b).1 (sym ((bytes_eq-Decides b a).0 h)) in absurd (cc (sym same ∙ e))

pub neither : (a b : Bool) → a || b ≡ false → (a ≡ false) × (b ≡ false)
neither true b e = absurd (cc e)
neither false b e = (refl, e)

not_next : (p : Program) (tag : List ℕ) (xs : List Aggregate) (more : Lines) → EachAggregate (IsStruct p) xs → is_among (map (tag_text p) xs) tag ≡ false → opened_first more ≡ None →
    is_opened (opened_first (lines_onto (concat_each (struct_lines p) xs) more)) tag ≡ false
not_next p tag [] more is apart e = ap (λ o. is_opened o tag) e
not_next p tag (x ∷ xs) more is apart e =
    let h = neither (bytes_eq tag (tag_text p x)) (list_any (bytes_eq tag) (map (tag_text p) xs)) apart in
    ap (λ ls. is_opened (opened_first ls) tag) (lines_append (struct_lines p x) (concat_each (struct_lines p) xs) more)
    ∙ by x.members refl h.0 (not_next p tag xs more is.1 h.1 e)
  where
    by : (o : Option (List Member)) → x.members ≡ o → bytes_eq tag (tag_text p x) ≡ false → is_opened (opened_first (lines_onto (concat_each (struct_lines p) xs) more)) tag ≡ false →
        is_opened (opened_first (lines_onto (struct_lines p x) (lines_onto (concat_each (struct_lines p) xs) more))) tag ≡ false
    by None f q later = ap (λ ls. is_opened (opened_first (lines_onto ls (lines_onto (concat_each (struct_lines p) xs) more))) tag) (struct_of p x None is.0.1 f) ∙ later
    by (Some ms) f q later =
        ap (λ ls. is_opened (opened_first (lines_onto ls (lines_onto (concat_each (struct_lines p) xs) more))) tag) (struct_of p x (Some ms) is.0.1 f)
        ∙ ap (λ ws. is_opened (opened_tag ws) tag) (heading_words p x is.0.0)
        ∙ other_way tag (tag_text p x) q

skipped : (of : List Word → Option SeenMember) (x : Tag) (xs : List Tag) (lines : Lines) → is_opened (opened_first lines) x.1 ≡ false → read_structs of (x ∷ xs) lines ≡ option_map (aggregate_first (incomplete x)) (read_structs of xs lines)
skipped of x xs [] e = refl
skipped of x xs (line ∷ lines) e = rw e refl

seen_complete : (p : Program) (x : Aggregate) (ms : List Member) → IsTag p x → x.members ≡ Some ms → complete_with (tag_pair p x) (map (seen_member p) ms) ≡ seen_aggregate p x
seen_complete p x ms tag f =
    ap (λ (t : Option (List ℕ)). record { kind = x.kind; tag = t; members = Some (map (seen_member p) ms) }) (sym tag.1)
    ∙ ap (λ (o : Option (List Member)). record { kind = x.kind; tag = option_map (text_at p.names) x.tag; members = option_map (map (seen_member p)) o }) (sym f)

seen_incomplete : (p : Program) (x : Aggregate) → IsTag p x → x.members ≡ None → incomplete (tag_pair p x) ≡ seen_aggregate p x
seen_incomplete p x tag f =
    ap (λ (t : Option (List ℕ)). record { kind = x.kind; tag = t; members = None }) (sym tag.1)
    ∙ ap (λ (o : Option (List Member)). record { kind = x.kind; tag = option_map (text_at p.names) x.tag; members = option_map (map (seen_member p)) o }) (sym f)

opened_back : (p : Program) (n : ℕ) (x : Aggregate) (ms : List Member) (xs : List Tag) (rest : Lines) → members_size p ms ≤ n → IsTag p x → is_enum x.kind ≡ false → x.members ≡ Some ms → EachMember (IsField p) ms →
    read_structs (read_member (bases_of p) n) (tag_pair p x ∷ xs) (lines_onto (struct_lines p x) rest) ≡ option_map (aggregate_first (seen_aggregate p x)) (read_structs (read_member (bases_of p) n) xs rest)
opened_back p n x ms xs rest low tag kind_is f fields =
    let of = read_member (bases_of p) n in
    let others = lines_onto (map (member_line p) ms ++ (codes "}" ∷ codes ";" ∷ []) ∷ []) rest in
    ap (read_structs of (tag_pair p x ∷ xs)) (
    ap (λ (ls : List Line). lines_onto ls rest) (struct_of p x (Some ms) kind_is f)
    ∙ ap (λ (ws : List Word). ws ∷ others) (heading_words p x tag))
    ∙ ap (λ b. cond b (option_and_then (λ (r : List SeenMember × Lines). option_map (aggregate_first (complete_with (tag_pair p x) r.0)) (read_structs of xs r.1)) (read_members of others)) (option_map (aggregate_first (incomplete (tag_pair p x))) (read_structs of xs ((TagWord x.kind ∷ Name (tag_text p x) ∷ LeftBrace ∷ []) ∷ others)))) ((bytes_eq-Decides (tag_text p x) (tag_text p x)).1 refl)
    ∙ ap (option_and_then (λ (r : List SeenMember × Lines). option_map (aggregate_first (complete_with (tag_pair p x) r.0)) (read_structs of xs r.1))) (members_back p of (member_line p) ms rest (fields_back p n ms low fields))
    ∙ ap (λ (y : SeenAggregate). option_map (aggregate_first y) (read_structs of xs rest)) (seen_complete p x ms tag f)

pub structs_back : (p : Program) (n : ℕ) (xs : List Aggregate) (more : Lines) → aggregates_size p xs ≤ n → EachAggregate (IsStruct p) xs → are_different (map (tag_text p) xs) ≡ true → opened_first more ≡ None →
    read_structs (read_member (bases_of p) n) (map (tag_pair p) xs) (lines_onto (concat_each (struct_lines p) xs) more) ≡ Some (map (seen_aggregate p) xs, more)
structs_back p n [] more low is apart e = refl
structs_back p n (x ∷ xs) more low is apart e =
    let h = both (not (is_among (map (tag_text p) xs) (tag_text p x))) (are_different (map (tag_text p) xs)) apart in
    let of = read_member (bases_of p) n in
    let rest = lines_onto (concat_each (struct_lines p) xs) more in
    ap (read_structs of (tag_pair p x ∷ map (tag_pair p) xs)) (lines_append (struct_lines p x) (concat_each (struct_lines p) xs) more)
    ∙ by x.members refl low is.0.2 (denied (is_among (map (tag_text p) xs) (tag_text p x)) h.0)
    ∙ ap (option_map (aggregate_first (seen_aggregate p x))) (structs_back p n xs more (omega arith) is.1 h.1 e)
  where
    by : (o : Option (List Member)) → x.members ≡ o → 1 + some_size p x.members + aggregates_size p xs ≤ n → fields_told p x.members → is_among (map (tag_text p) xs) (tag_text p x) ≡ false →
        read_structs (read_member (bases_of p) n) (tag_pair p x ∷ map (tag_pair p) xs) (lines_onto (struct_lines p x) (lines_onto (concat_each (struct_lines p) xs) more))
        ≡ option_map (aggregate_first (seen_aggregate p x)) (read_structs (read_member (bases_of p) n) (map (tag_pair p) xs) (lines_onto (concat_each (struct_lines p) xs) more))
    by None f l told others =
        let rest = lines_onto (concat_each (struct_lines p) xs) more in
        ap (λ (ls : List Line). read_structs (read_member (bases_of p) n) (tag_pair p x ∷ map (tag_pair p) xs) (lines_onto ls rest)) (struct_of p x None is.0.1 f)
        ∙ skipped (read_member (bases_of p) n) (tag_pair p x) (map (tag_pair p) xs) rest (not_next p (tag_text p x) xs more is.1 others e)
        ∙ ap (λ (y : SeenAggregate). option_map (aggregate_first y) (read_structs (read_member (bases_of p) n) (map (tag_pair p) xs) rest)) (seen_incomplete p x is.0.0 f)
    by (Some ms) f l told others =
        opened_back p n x ms (map (tag_pair p) xs) (lines_onto (concat_each (struct_lines p) xs) more) (omega (arith, ap (some_size p) f)) is.0.0 is.0.1 f (subst (fields_told p) f told)

-- all aggregates: enums, and then structs and unions

pub map_joined : {A B : Type 0} (f : A → B) (xs ys : List A) → map f (xs ++ ys) ≡ map f xs ++ map f ys
map_joined f [] ys = refl
map_joined f (x ∷ xs) ys = ap (λ zs. f x ∷ zs) (map_joined f xs ys)

pub each_joined : {A B : Type 0} (f : A → List B) (xs ys : List A) → concat_each f (xs ++ ys) ≡ concat_each f xs ++ concat_each f ys
each_joined f [] ys = refl
each_joined f (x ∷ xs) ys = ap (λ zs. f x ++ zs) (each_joined f xs ys) ∙ sym (append_assoc (f x) (concat_each f xs) (concat_each f ys))

pub last_different : (xs ys : List (List ℕ)) → are_different (xs ++ ys) ≡ true → are_different ys ≡ true
last_different [] ys e = e
last_different (x ∷ xs) ys e = last_different xs ys (both (not (is_among (xs ++ ys) x)) (are_different (xs ++ ys)) e).1

pub no_tags : (p : Program) (es : List Aggregate) → EachAggregate (IsEnum p) es → concat_each (tag_lines p) es ≡ []
no_tags p [] is = refl
no_tags p (x ∷ xs) is = ap (λ (k : AggKind). cond (is_enum k) [] (closed (tagged p x) ∷ []) ++ concat_each (tag_lines p) xs) is.0.1 ∙ no_tags p xs is.1

pub no_structs : (p : Program) (es : List Aggregate) → EachAggregate (IsEnum p) es → concat_each (struct_lines p) es ≡ []
no_structs p [] is = refl
no_structs p (x ∷ xs) is = ap (λ (k : AggKind). cond (is_enum k) [] (complete_lines p (member_line p) x) ++ concat_each (struct_lines p) xs) is.0.1 ∙ no_structs p xs is.1

pub no_enums : (p : Program) (ss : List Aggregate) → EachAggregate (IsStruct p) ss → concat_each (enum_lines p) ss ≡ []
no_enums p [] is = refl
no_enums p (x ∷ xs) is = ap (λ b. cond b (complete_lines p (enumerator_line p) x) [] ++ concat_each (enum_lines p) xs) is.0.1 ∙ no_enums p xs is.1

structs_lone : (p : Program) (xs : List Aggregate) (more : Lines) → EachAggregate (IsStruct p) xs → lone_first more ≡ None → lone_first (lines_onto (concat_each (struct_lines p) xs) more) ≡ None
structs_lone p [] more is e = e
structs_lone p (x ∷ xs) more is e = ap lone_first (lines_append (struct_lines p x) (concat_each (struct_lines p) xs) more) ∙ by x.members refl (structs_lone p xs more is.1 e)
  where
    by : (o : Option (List Member)) → x.members ≡ o → lone_first (lines_onto (concat_each (struct_lines p) xs) more) ≡ None → lone_first (lines_onto (struct_lines p x) (lines_onto (concat_each (struct_lines p) xs) more)) ≡ None
    by None f later = ap (λ ls. lone_first (lines_onto ls (lines_onto (concat_each (struct_lines p) xs) more))) (struct_of p x None is.0.1 f) ∙ later
    by (Some ms) f later =
        ap (λ ls. lone_first (lines_onto ls (lines_onto (concat_each (struct_lines p) xs) more))) (struct_of p x (Some ms) is.0.1 f)
        ∙ ap lone_tag (heading_words p x is.0.0)

tags_opened : (p : Program) (xs : List Aggregate) (more : Lines) → EachAggregate (IsStruct p) xs → opened_first more ≡ None → opened_first (lines_onto (concat_each (tag_lines p) xs) (lines_onto (concat_each (struct_lines p) xs) more)) ≡ None
tags_opened p [] more is e = e
tags_opened p (x ∷ xs) more is e =
    let rest = lines_onto (concat_each (struct_lines p) (x ∷ xs)) more in
    ap opened_first (
    lines_append (tag_lines p x) (concat_each (tag_lines p) xs) rest
    ∙ ap (λ (b : Bool). lines_onto (cond b [] (closed (tagged p x) ∷ [])) (lines_onto (concat_each (tag_lines p) xs) rest)) is.0.1)
    ∙ ap opened_tag (lone_words p x is.0.0)

tag_seen : (p : Program) (x : Aggregate) → tag_of (seen_aggregate p x) ≡ tag_text p x
tag_seen p x = by x.tag
  where
    by : (o : Option NameId) → elim (option_map (text_at p.names) o) as (λ _. List ℕ) [ None ↦ [] | Some t ↦ t ] ≡ elim o as (λ _. List ℕ) [ None ↦ [] | Some n ↦ text_at p.names n ]
    by None = refl
    by (Some n) = refl

pub tags_seen : (p : Program) (xs : List Aggregate) → map tag_of (map (seen_aggregate p) xs) ≡ map (tag_text p) xs
tags_seen p [] = refl
tags_seen p (x ∷ xs) = ap (λ t. t ∷ map tag_of (map (seen_aggregate p) xs)) (tag_seen p x) ∙ ap (λ ts. tag_text p x ∷ ts) (tags_seen p xs)

tags_paired : (p : Program) (xs : List Aggregate) → map tag_text_of (map (tag_pair p) xs) ≡ map (tag_text p) xs
tags_paired p [] = refl
tags_paired p (x ∷ xs) = ap (λ ts. tag_text p x ∷ ts) (tags_paired p xs)

enough : (p : Program) (xs : List Aggregate) → length xs ≤ aggregates_size p xs
enough p [] = omega arith
enough p (x ∷ xs) = omega (arith, enough p xs)

-- the lines of aggregates, in front of others
abbrev pub aggregate_lines : Program → Lines → Lines
aggregate_lines p more = lines_onto (concat_each (enum_lines p) p.graph.aggs) (lines_onto (concat_each (tag_lines p) p.graph.aggs) (lines_onto (concat_each (struct_lines p) p.graph.aggs) more))

parts_back : (p : Program) (n : ℕ) (es ss : List Aggregate) (more : Lines) → p.graph.aggs ≡ es ++ ss → EachAggregate (IsEnum p) es → EachAggregate (IsStruct p) ss → aggregates_size p es + aggregates_size p ss ≤ n →
    are_different (tags p) ≡ true → opened_first more ≡ None → lone_first more ≡ None →
    option_and_then (λ (r : List SeenAggregate × Lines). structs_from p.graph.abi n r.0 (read_tags r.1)) (read_enums n (aggregate_lines p more)) ≡ Some (map (seen_aggregate p) p.graph.aggs, more)
parts_back p n es ss more both_are are_enums are_structs low different opened lone =
    let enums = concat_each (enum_lines p) es in
    let tags_ = concat_each (tag_lines p) ss in
    let structs = concat_each (struct_lines p) ss in
    let no_more = λ (f : Aggregate → List Line). each_joined f es ss in
    let a : concat_each (enum_lines p) p.graph.aggs ≡ enums ++ [] = ap (concat_each (enum_lines p)) both_are ∙ each_joined (enum_lines p) es ss ∙ ap (λ ls. enums ++ ls) (no_enums p ss are_structs) in
    let b : concat_each (tag_lines p) p.graph.aggs ≡ tags_ = ap (concat_each (tag_lines p)) both_are ∙ each_joined (tag_lines p) es ss ∙ ap (λ ls. ls ++ tags_) (no_tags p es are_enums) in
    let d : concat_each (struct_lines p) p.graph.aggs ≡ structs = ap (concat_each (struct_lines p)) both_are ∙ each_joined (struct_lines p) es ss ∙ ap (λ ls. ls ++ structs) (no_structs p es are_enums) in
    let all : map (tag_text p) es ++ map (tag_text p) ss ≡ tags p = sym (map_joined (tag_text p) es ss) ∙ ap (map (tag_text p)) (sym both_are) in
    let told : all_tags (map (seen_aggregate p) es) (map (tag_pair p) ss) ≡ tags p =
    ap (λ ts. ts ++ map tag_text_of (map (tag_pair p) ss)) (tags_seen p es) ∙ ap (λ ts. map (tag_text p) es ++ ts) (tags_paired p ss) ∙ all in
    ap (λ ls. option_and_then (λ (r : List SeenAggregate × Lines). structs_from p.graph.abi n r.0 (read_tags r.1)) (read_enums n ls)) (
    ap (λ ls. lines_onto ls (lines_onto (concat_each (tag_lines p) p.graph.aggs) (lines_onto (concat_each (struct_lines p) p.graph.aggs) more))) a
    ∙ lines_append enums [] (lines_onto (concat_each (tag_lines p) p.graph.aggs) (lines_onto (concat_each (struct_lines p) p.graph.aggs) more))
    ∙ ap (λ ls. lines_onto enums (lines_onto ls (lines_onto (concat_each (struct_lines p) p.graph.aggs) more))) b
    ∙ ap (λ ls. lines_onto enums (lines_onto tags_ (lines_onto ls more))) d)
    ∙ ap (option_and_then (λ (r : List SeenAggregate × Lines). structs_from p.graph.abi n r.0 (read_tags r.1))) (enums_back p n es (lines_onto tags_ (lines_onto structs more)) (omega (arith, enough p es)) are_enums (tags_opened p ss more are_structs opened))
    ∙ ap (structs_from p.graph.abi n (map (seen_aggregate p) es)) (tags_back p ss (lines_onto structs more) are_structs (structs_lone p ss more are_structs lone))
    ∙ ap (λ (ts : List (List ℕ)). option_map (with_enums (map (seen_aggregate p) es)) (read_structs (read_member (record { abi = p.graph.abi; tags = ts }) n) (map (tag_pair p) ss) (lines_onto structs more))) told
    ∙ ap (option_map (with_enums (map (seen_aggregate p) es))) (structs_back p n ss more (omega arith) are_structs (last_different (map (tag_text p) es) (map (tag_text p) ss) (ap are_different all ∙ different)) opened)
    ∙ ap (λ xs. Some (xs, more)) (sym (map_joined (seen_aggregate p) es ss) ∙ ap (map (seen_aggregate p)) (sym both_are))

pub aggregates_back : (p : Program) (n : ℕ) (es ss : List Aggregate) (more : Lines) → p.graph.aggs ≡ es ++ ss → EachAggregate (IsEnum p) es → EachAggregate (IsStruct p) ss → aggregates_size p es + aggregates_size p ss ≤ n →
    are_different (tags p) ≡ true → aggregates_allowed (map (seen_aggregate p) p.graph.aggs) ≡ true → opened_first more ≡ None → lone_first more ≡ None →
    read_placed p.graph.abi n (aggregate_lines p more) ≡ Some (map (seen_aggregate p) p.graph.aggs, more)
aggregates_back p n es ss more both_are are_enums are_structs low different well opened lone =
    ap (option_and_then (allowed first_allowed)) (parts_back p n es ss more both_are are_enums are_structs low different opened lone)
    ∙ ap (λ b. cond b (Some (map (seen_aggregate p) p.graph.aggs, more)) None) well
