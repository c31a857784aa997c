-- Device: the code gets a body's steps, statement by statement.
use Rattle.std.proofs.Common.{◌≡◌, ℕ, zero, suc, ◌+◌, ◌<◌, ◌≤◌, true, List, [], ◌∷◌, ◌++◌, length, drop, get_or, slice_get, Option, Some, None, refl, sym, ap, ◌∙◌, subst, arith, append_assoc, Result, Ok, Err, OnOk, Global}
use Rattle.std.specs.declared.vec.Vec.{Vec}
use Rattle.std.proofs.lemmas.List.{length-append}
use Rattle.type_graph.specs.declared.nodes.Node.{Node}
use Rattle.cil_tree.specs.declared.expressions.Exp.{Exp as CodeExp}
use Rattle.cil_tree.specs.declared.statements.Stmt.{Stmt}
use Rattle.cil_tree.specs.declared.statements.Stmt.TheViews as statements
use Rattle.cil_tree.proofs.Views.{at_if, at_switch, at_loop}
use Rattle.cil_tree.specs.Tree.{Exp, Stmts, If, Switch, Loop}
use Rattle.cil_tree.specs.Typing.{Scope}
use Rattle.cil_tree.specs.View.{exp_of, stmt_of, stmts_of}
use Rattle.cil_control.specs.Remains.{steps, steps_in}
use Rattle.cil_control.specs.Flat as flat
use Rattle.cil_control.specs.Flat.{steps_at, steps_from, body_steps, labels_from, cases_from, default_from, place_or}
use Rattle.cil_control.specs.Leading as plain
use Rattle.cil_control.proofs.Leads.{both_true, both_of, bodies_lead_on}
use Rattle.cil_control.proofs.Courses.{listed, listed_in}
use Rattle.cil_code.specs.declared.steps.Step.{Step}
use Rattle.cil_code.specs.Leading.{leads, lead_from, LeadOn}
use Rattle.cil_code.specs.Doing.{IsStep, AreSteps, HasGot}
use Rattle.cil_code.specs.Running.{steps_of}

-- the steps of statements from one on
pub steps_next : (label : ℕ → Option ℕ) (nodes : List Node) (ss : List Stmt) (i p : ℕ) (b : Option ℕ) (d : Stmt) → i < length ss
    → steps_from label p b (stmts_of nodes (drop i ss)) ≡ steps_at label p b (stmt_of nodes (get_or ss i d)) ++ steps_from label (p + steps (stmt_of nodes (get_or ss i d))) b (stmts_of nodes (drop (suc i) ss))
steps_next label nodes [] i p b d h = absurd (omega arith)
steps_next label nodes (s ∷ ss) zero p b d h = refl
steps_next label nodes (s ∷ ss) (suc i) p b d h = steps_next label nodes ss i p b d (omega arith)

pub steps_length : (c : Scope) (es : List ℕ) (xs : List flat.Step) (ys : List Step) → AreSteps c es xs ys → length ys ≡ length xs
steps_length c es [] [] h = refl
steps_length c es [] (y ∷ ys) h = absurd h
steps_length c es (x ∷ xs) [] h = absurd h
steps_length c es (x ∷ xs) (y ∷ ys) h = ap suc (steps_length c es xs ys h.1)

-- they lead on where those of the body do
steps_lead : (c : Scope) (es : List ℕ) (n p : ℕ) (xs : List flat.Step) (ys : List Step) → AreSteps c es xs ys → plain.lead_from n p xs ≡ true → lead_from n p ys ≡ true
steps_lead c es n p [] [] h k = refl
steps_lead c es n p [] (y ∷ ys) h k = absurd h
steps_lead c es n p (x ∷ xs) [] h k = absurd h
steps_lead c es n p (x ∷ xs) (y ∷ ys) h k =
    let two = both_of (plain.leads n p x) (plain.lead_from n (suc p) xs) k in
    both_true (leads n p y) (lead_from n (suc p) ys) (h.0.leads_on n p two.0) (steps_lead c es n (suc p) xs ys h.1 two.1)

-- the loaded list of a body has a first step, and leads on
pub loaded_leads : (c : Scope) (es : List ℕ) (body : Stmts) (code : List Step) → AreSteps c es (steps_of body) code → LeadOn code
loaded_leads c es body code h =
    let same : length code ≡ length (steps_of body) = steps_length c es (steps_of body) code h in
    subst (λ n. lead_from n 0 code ≡ true) (sym same) (steps_lead c es (length (steps_of body)) 0 (steps_of body) code h (bodies_lead_on body).each)

pub loaded_starts : (c : Scope) (es : List ℕ) (body : Stmts) (code : List Step) → AreSteps c es (steps_of body) code → 0 < length code
loaded_starts c es body code h =
    let same : length code ≡ length (steps_of body) = steps_length c es (steps_of body) code h in
    let first : 0 < length (steps_of body) = (bodies_lead_on body).first in
    omega arith

pub steps_join : (c : Scope) (es : List ℕ) (xs us : List flat.Step) (ys vs : List Step) → AreSteps c es xs ys → AreSteps c es us vs → AreSteps c es (xs ++ us) (ys ++ vs)
steps_join c es [] us [] vs h k = k
steps_join c es [] us (y ∷ ys) vs h k = absurd h
steps_join c es (x ∷ xs) us [] vs h k = absurd h
steps_join c es (x ∷ xs) us (y ∷ ys) vs h k = (h.0, steps_join c es xs us ys vs h.1 k)

append_none : (xs : List Step) → xs ≡ xs ++ []
append_none [] = refl
append_none (x ∷ xs) = ap (λ z. x ∷ z) (append_none xs)

pub got_nothing : (c : Scope) (es : List ℕ) (old : List Step) → HasGot c es [] old old
got_nothing c es old = record { more = []; joined = append_none old; steps = tt }

pub got_one : (c : Scope) (es : List ℕ) (x : flat.Step) (y : Step) (old new : List Step) → new ≡ old ++ y ∷ [] → IsStep c es x y → HasGot c es (x ∷ []) old new
got_one c es x y old new e h = record { more = y ∷ []; joined = e; steps = (h, tt) }

-- steps behind steps
pub got_both : (c : Scope) (es : List ℕ) (xs us : List flat.Step) (old mid new : List Step) → HasGot c es xs old mid → HasGot c es us mid new → HasGot c es (xs ++ us) old new
got_both c es xs us old mid new h k = record {
  more = h.more ++ k.more;
  joined = k.joined ∙ (ap (λ z. z ++ k.more) h.joined ∙ append_assoc old h.more k.more);
  steps = steps_join c es xs us h.more k.more h.steps k.steps;
}

-- where the code ends then
pub got_length : (c : Scope) (es : List ℕ) (xs : List flat.Step) (old new : List Step) → HasGot c es xs old new → length new ≡ length old + length xs
got_length c es xs old new h =
    let one : length new ≡ length (old ++ h.more) = ap (λ z. length z) h.joined in
    let two = length-append old h.more in
    let same : length h.more ≡ length xs = steps_length c es xs h.more h.steps in
    omega arith

-- the steps of a statement, then those behind it
pub got_next : (c : Scope) (es : List ℕ) (label : ℕ → Option ℕ) (nodes : List Node) (ss : List Stmt) (i : ℕ) (b : Option ℕ) (d : Stmt) (mid new : List Step)
    → HasGot c es (steps_at label (length mid) b (stmt_of nodes (get_or ss i d))) mid new → length new ≡ length mid + steps (stmt_of nodes (get_or ss i d))
got_next c es label nodes ss i b d mid new got =
    let more = got_length c es (steps_at label (length mid) b (stmt_of nodes (get_or ss i d))) mid new got in
    let count : length (steps_at label (length mid) b (stmt_of nodes (get_or ss i d))) ≡ steps (stmt_of nodes (get_or ss i d)) = listed label (length mid) b (stmt_of nodes (get_or ss i d)) in
    omega arith

-- what is left to add completes the steps that are wanted behind the old ones
pub record Completes (c : Scope) (es : List ℕ) (rest : List flat.Step) (now : List Step) (all : List flat.Step) (old : List Step) : Type 0 where
  pub by : (new : List Step) → HasGot c es rest now new → HasGot c es all old new

pub completes_all : (c : Scope) (es : List ℕ) (xs : List flat.Step) (old : List Step) → Completes c es xs old xs old
completes_all c es xs old = record { by = λ new h. h }

pub completes_next : (c : Scope) (es : List ℕ) (label : ℕ → Option ℕ) (nodes : List Node) (ss : List Stmt) (i : ℕ) (b : Option ℕ) (d : Stmt) (old now next : List Step) (all : List flat.Step) → i < length ss
    → Completes c es (steps_from label (length now) b (stmts_of nodes (drop i ss))) now all old → HasGot c es (steps_at label (length now) b (stmt_of nodes (get_or ss i d))) now next
    → Completes c es (steps_from label (length next) b (stmts_of nodes (drop (suc i) ss))) next all old
completes_next c es label nodes ss i b d old now next all h rest got = record {
  by = λ new more.
      let place : length next ≡ length now + steps (stmt_of nodes (get_or ss i d)) = got_next c es label nodes ss i b d now next got in
      rest.by new (subst (λ xs. HasGot c es xs now new) (sym (steps_next label nodes ss i (length now) b d h))
      (got_both c es (steps_at label (length now) b (stmt_of nodes (get_or ss i d))) (steps_from label (length now + steps (stmt_of nodes (get_or ss i d))) b (stmts_of nodes (drop (suc i) ss))) now next new got
      (subst (λ p. HasGot c es (steps_from label p b (stmts_of nodes (drop (suc i) ss))) next new) place more)));
}

pub completes_end : (c : Scope) (es : List ℕ) (label : ℕ → Option ℕ) (nodes : List Node) (ss : List Stmt) (i p : ℕ) (b : Option ℕ) (old now : List Step) (all : List flat.Step) → length ss ≤ i
    → Completes c es (steps_from label p b (stmts_of nodes (drop i ss))) now all old → HasGot c es all old now
completes_end c es label nodes ss i p b old now all h rest = rest.by now (subst (λ xs. HasGot c es xs now now) (sym (none ss i h)) (got_nothing c es now))
  where
    none : (ss : List Stmt) (i : ℕ) → length ss ≤ i → steps_from label p b (stmts_of nodes (drop i ss)) ≡ []
    none [] zero h = refl
    none [] (suc i) h = refl
    none (s ∷ ss) zero h = absurd (omega arith)
    none (s ∷ ss) (suc i) h = none ss i (omega arith)

-- the steps of an if
pub if_got : {T E : Type 0} (r : Result T E) (c : Scope) (es : List ℕ) (label : ℕ → Option ℕ) (b : Option ℕ) (e : Exp) (hs fs : Stmts) (q : ℕ) (old tested held ended new : List Step)
    → HasGot c es (flat.Test e (suc (suc (length old) + steps_in hs)) ∷ []) old tested → q ≡ suc (suc (length old) + steps_in hs) + steps_in fs
    → HasGot c es (steps_from label (length tested) b hs) tested held → HasGot c es (flat.Forward q ∷ []) held ended → OnOk r (HasGot c es (steps_from label (length ended) b fs) ended new)
    → OnOk r (HasGot c es (steps_at label (length old) b (If e hs fs)) old new)
if_got (Err x) c es label b e hs fs q old tested held ended new test place first jump second = tt
if_got (Ok t) c es label b e hs fs q old tested held ended new test place first jump second =
    got_both c es (flat.Test e (suc (suc (length old) + steps_in hs)) ∷ []) (steps_from label (suc (length old)) b hs ++ flat.Forward (suc (suc (length old) + steps_in hs) + steps_in fs) ∷ steps_from label (suc (suc (length old) + steps_in hs)) b fs) old tested new test
    (got_both c es (steps_from label (suc (length old)) b hs) (flat.Forward (suc (suc (length old) + steps_in hs) + steps_in fs) ∷ steps_from label (suc (suc (length old) + steps_in hs)) b fs) tested held new
    (subst (λ p. HasGot c es (steps_from label p b hs) tested held) at_first first)
    (got_both c es (flat.Forward (suc (suc (length old) + steps_in hs) + steps_in fs) ∷ []) (steps_from label (suc (suc (length old) + steps_in hs)) b fs) held ended new (subst (λ q. HasGot c es (flat.Forward q ∷ []) held ended) place jump)
    (subst (λ p. HasGot c es (steps_from label p b fs) ended new) at_second second)))
  where
    at_first : length tested ≡ suc (length old)
    at_first = let one = got_length c es (flat.Test e (suc (suc (length old) + steps_in hs)) ∷ []) old tested test in omega arith

    at_second : length ended ≡ suc (suc (length old) + steps_in hs)
    at_second =
        let start = at_first in
        let one = got_length c es (steps_from label (length tested) b hs) tested held first in
        let two = got_length c es (flat.Forward q ∷ []) held ended jump in
        let count : length (steps_from label (length tested) b hs) ≡ steps_in hs = listed_in label (length tested) b hs in
        omega arith

-- the steps of a switch
pub switch_got : {T E : Type 0} (r : Result T E) (c : Scope) (es : List ℕ) (label : ℕ → Option ℕ) (b : Option ℕ) (e : Exp) (body : Stmts) (q : ℕ) (old chosen new : List Step)
    → HasGot c es (flat.Choose e (cases_from (suc (length old)) body) (place_or (suc (length old) + steps_in body) (default_from (suc (length old)) body)) ∷ []) old chosen → q ≡ suc (length old) + steps_in body
    → OnOk r (HasGot c es (steps_from label (length chosen) (Some q) body) chosen new) → OnOk r (HasGot c es (steps_at label (length old) b (Switch e body)) old new)
switch_got (Err x) c es label b e body q old chosen new choice place inner = tt
switch_got (Ok t) c es label b e body q old chosen new choice place inner =
    got_both c es (flat.Choose e (cases_from (suc (length old)) body) (place_or (suc (length old) + steps_in body) (default_from (suc (length old)) body)) ∷ []) (steps_from label (suc (length old)) (Some (suc (length old) + steps_in body)) body) old chosen new choice
    (subst (λ q. HasGot c es (steps_from label (suc (length old)) (Some q) body) chosen new) place (subst (λ p. HasGot c es (steps_from label p (Some q) body) chosen new) at_first inner))
  where
    at_first : length chosen ≡ suc (length old)
    at_first = let one = got_length c es (flat.Choose e (cases_from (suc (length old)) body) (place_or (suc (length old) + steps_in body) (default_from (suc (length old)) body)) ∷ []) old chosen choice in omega arith

-- the steps of a loop
pub loop_got : {T E : Type 0} (r : Result T E) (c : Scope) (es : List ℕ) (label : ℕ → Option ℕ) (b : Option ℕ) (body : Stmts) (first q : ℕ) (old turned held new : List Step)
    → HasGot c es (flat.Back (suc (length old)) ∷ []) old turned → first ≡ length old + 1 → q ≡ suc (suc (length old) + steps_in body)
    → HasGot c es (steps_from label (length turned) (Some q) body) turned held → OnOk r (HasGot c es (flat.Back first ∷ []) held new) → OnOk r (HasGot c es (steps_at label (length old) b (Loop body)) old new)
loop_got (Err x) c es label b body first q old turned held new turn at_first place inner again = tt
loop_got (Ok t) c es label b body first q old turned held new turn at_first place inner again =
    got_both c es (flat.Back (suc (length old)) ∷ []) (steps_from label (suc (length old)) (Some (suc (suc (length old) + steps_in body))) body ++ flat.Back (suc (length old)) ∷ []) old turned new turn
    (got_both c es (steps_from label (suc (length old)) (Some (suc (suc (length old) + steps_in body))) body) (flat.Back (suc (length old)) ∷ []) turned held new
    (subst (λ q. HasGot c es (steps_from label (suc (length old)) (Some q) body) turned held) place (subst (λ p. HasGot c es (steps_from label p (Some q) body) turned held) at_body inner))
    (subst (λ p. HasGot c es (flat.Back p ∷ []) held new) at_start again))
  where
    at_start : first ≡ suc (length old)
    at_start = omega arith

    at_body : length turned ≡ suc (length old)
    at_body = let one = got_length c es (flat.Back (suc (length old)) ∷ []) old turned turn in omega arith

-- the steps of a whole body
pub body_got : (c : Scope) (es : List ℕ) (label : ℕ → Option ℕ) (body : Stmts) (all new : List Step) → HasGot c es (steps_from label 0 None body) [] all → HasGot c es (flat.Leave None ∷ []) all new → AreSteps c es (body_steps label body) new
body_got c es label body all new h k =
    let both = got_both c es (steps_from label 0 None body) (flat.Leave None ∷ []) [] all new h k in
    subst (AreSteps c es (body_steps label body)) (sym both.joined) both.steps

-- the same, as the code's trees tell
pub if_pushed : {T E : Type 0} (r : Result T E) (c : Scope) (es : List ℕ) (label : ℕ → Option ℕ) (b : Option ℕ) (nodes : List Node) (x : Stmt) (e : CodeExp) (v w : Vec Stmt Global) (hs gs fs us : List Stmt) (q : ℕ) (old tested held ended new : List Step)
    → x ≡ statements.If e v w → hs ≡ v.items → gs ≡ v.items → fs ≡ w.items → us ≡ w.items
    → HasGot c es (flat.Test (exp_of nodes e) (suc (suc (length old) + steps_in (stmts_of nodes hs))) ∷ []) old tested → q ≡ suc (suc (length old) + steps_in (stmts_of nodes hs)) + steps_in (stmts_of nodes fs)
    → HasGot c es (steps_from label (length tested) b (stmts_of nodes gs)) tested held → HasGot c es (flat.Forward q ∷ []) held ended → OnOk r (HasGot c es (steps_from label (length ended) b (stmts_of nodes us)) ended new)
    → OnOk r (HasGot c es (steps_at label (length old) b (stmt_of nodes x)) old new)
if_pushed r c es label b nodes x e v w hs gs fs us q old tested held ended new is a d f g test place first jump second =
    subst (λ z. OnOk r (HasGot c es (steps_at label (length old) b z) old new)) (sym (at_if nodes x e v w v.items w.items is refl refl))
    (if_got r c es label b (exp_of nodes e) (stmts_of nodes v.items) (stmts_of nodes w.items) q old tested held ended new
    (subst (λ z. HasGot c es (flat.Test (exp_of nodes e) (suc (suc (length old) + steps_in (stmts_of nodes z))) ∷ []) old tested) a test)
    (place ∙ (ap (λ z. suc (suc (length old) + steps_in (stmts_of nodes z)) + steps_in (stmts_of nodes fs)) a ∙ ap (λ z. suc (suc (length old) + steps_in (stmts_of nodes v.items)) + steps_in (stmts_of nodes z)) f))
    (subst (λ z. HasGot c es (steps_from label (length tested) b (stmts_of nodes z)) tested held) d first) jump
    (subst (λ z. OnOk r (HasGot c es (steps_from label (length ended) b (stmts_of nodes z)) ended new)) g second))

pub switch_pushed : {T E : Type 0} (r : Result T E) (c : Scope) (es : List ℕ) (label : ℕ → Option ℕ) (b : Option ℕ) (nodes : List Node) (x : Stmt) (e : CodeExp) (v : Vec Stmt Global) (xs ys : List Stmt) (q : ℕ) (old chosen new : List Step)
    → x ≡ statements.Switch e v → xs ≡ v.items → ys ≡ v.items
    → HasGot c es (flat.Choose (exp_of nodes e) (cases_from (suc (length old)) (stmts_of nodes xs)) (place_or (suc (length old) + steps_in (stmts_of nodes xs)) (default_from (suc (length old)) (stmts_of nodes xs))) ∷ []) old chosen → q ≡ suc (length old) + steps_in (stmts_of nodes xs)
    → OnOk r (HasGot c es (steps_from label (length chosen) (Some q) (stmts_of nodes ys)) chosen new) → OnOk r (HasGot c es (steps_at label (length old) b (stmt_of nodes x)) old new)
switch_pushed r c es label b nodes x e v xs ys q old chosen new is a d choice place inner =
    subst (λ z. OnOk r (HasGot c es (steps_at label (length old) b z) old new)) (sym (at_switch nodes x e v v.items is refl))
    (switch_got r c es label b (exp_of nodes e) (stmts_of nodes v.items) q old chosen new
    (subst (λ z. HasGot c es (flat.Choose (exp_of nodes e) (cases_from (suc (length old)) (stmts_of nodes z)) (place_or (suc (length old) + steps_in (stmts_of nodes z)) (default_from (suc (length old)) (stmts_of nodes z))) ∷ []) old chosen) a choice)
    (place ∙ ap (λ z. suc (length old) + steps_in (stmts_of nodes z)) a)
    (subst (λ z. OnOk r (HasGot c es (steps_from label (length chosen) (Some q) (stmts_of nodes z)) chosen new)) d inner))

pub loop_pushed : {T E : Type 0} (r : Result T E) (c : Scope) (es : List ℕ) (label : ℕ → Option ℕ) (b : Option ℕ) (nodes : List Node) (x : Stmt) (v : Vec Stmt Global) (xs ys : List Stmt) (first q : ℕ) (old turned held new : List Step)
    → x ≡ statements.Loop v → xs ≡ v.items → ys ≡ v.items → HasGot c es (flat.Back (suc (length old)) ∷ []) old turned → first ≡ length old + 1 → q ≡ suc (suc (length old) + steps_in (stmts_of nodes xs))
    → HasGot c es (steps_from label (length turned) (Some q) (stmts_of nodes ys)) turned held → OnOk r (HasGot c es (flat.Back first ∷ []) held new) → OnOk r (HasGot c es (steps_at label (length old) b (stmt_of nodes x)) old new)
loop_pushed r c es label b nodes x v xs ys first q old turned held new is a d turn at_first place inner again =
    subst (λ z. OnOk r (HasGot c es (steps_at label (length old) b z) old new)) (sym (at_loop nodes x v v.items is refl))
    (loop_got r c es label b (stmts_of nodes v.items) first q old turned held new turn at_first (place ∙ ap (λ z. suc (suc (length old) + steps_in (stmts_of nodes z))) a)
    (subst (λ z. HasGot c es (steps_from label (length turned) (Some q) (stmts_of nodes z)) turned held) d inner) again)

-- a whole body, as the code's lists tell
pub load_done : (c : Scope) (es : List ℕ) (nodes : List Node) (ss : List Stmt) (labels places fresh : List ℕ) (none all new : List Step) → labels ≡ places → places ≡ fresh ++ labels_from 0 (stmts_of nodes ss) → fresh ≡ [] → none ≡ []
    → HasGot c es (steps_from (slice_get labels) (length none) None (stmts_of nodes ss)) none all → HasGot c es (flat.Leave None ∷ []) all new
    → AreSteps c es (body_steps (slice_get (labels_from 0 (stmts_of nodes ss))) (stmts_of nodes ss)) new
load_done c es nodes ss labels places fresh none all new same added empty bare got last =
    let known : labels ≡ labels_from 0 (stmts_of nodes ss) = same ∙ (added ∙ ap (λ z. z ++ labels_from 0 (stmts_of nodes ss)) empty) in
    body_got c es (slice_get (labels_from 0 (stmts_of nodes ss))) (stmts_of nodes ss) all new
    (subst (λ z. HasGot c es (steps_from (slice_get z) 0 None (stmts_of nodes ss)) [] all) known (subst (λ z. HasGot c es (steps_from (slice_get labels) (length z) None (stmts_of nodes ss)) z all) bare got)) last
