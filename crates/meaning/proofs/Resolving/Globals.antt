-- What a yes of `check_globals` says: one nonterminal to a name, and no terminal of that name. Assumes nothing.
use mathlib.Core.Path.{◌≡◌, refl, sym, ap, ◌∙◌, subst}
use mathlib.Core.Logic.{◌⊎◌, inl, inr}
use mathlib.Core.List.Memᴰ
use mathlib.Core.List.{List, [], ◌∷◌, ◌++◌, Memᴰ}
use mathlib.Core.Option.{Option, none, some}
use mathlib.Core.Bool.{Bool, true, false, cond, false≢true}
use lib.Dec.{eqb}
use lib.ListN.{length}
use Rattle.octets.specs.Plain.Runs.{same_as}
use Rattle.octets.proofs.SameLaws.{same_as-eq, eq_same_as}
use Rattle.parse_tree.specs.Plain.Tree.{Text, Nonterminal, Item, item, Source, extern, match}
use Rattle.parse_tree.specs.declared.syntax.Span.{Span}
use Rattle.passes.specs.Outcome.{Tree, Outcome, yes, no}
use Rattle.meaning.specs.Meaning.{is_terminal}
use Rattle.passes.specs.Resolve.{Def, nonterminal_def, Global, nonterminals, externs, matches, globals, def_in, kind, met_again, check_globals}
use Rattle.meaning.proofs.Basics.{test, or_cases, item_inj, item≢terminal}
use Rattle.passes.proofs.Outcomes.{no≢yes}

abbrev pub Distinct : List Global → List Global → Type 0
Distinct before [] = Unit {0}
Distinct before (g ∷ gs) = (def_in g.name before ≡ none) × Distinct (g ∷ before) gs

abbrev Yes : Outcome (Unit {0})
Yes = yes tt

met_never : (g : Global) (o : Option Def) (k : Outcome (Unit {0})) → met_again g o k ≡ Yes → (o ≡ none) × (k ≡ Yes)
met_never g none k h = (refl, h)
met_never g (some d) k h = go (eqb (kind g.def) (kind d)) h
  where
    go : (b : Bool) → cond b (no 5 g.span) (no 6 g.span) ≡ Yes → (some d ≡ none) × (k ≡ Yes)
    go true z = absurd (no≢yes _ _ _ z)
    go false z = absurd (no≢yes _ _ _ z)

pub check_distinct : (before gs : List Global) → check_globals before gs ≡ Yes → Distinct before gs
unfolding check_globals
check_distinct before [] h = tt
check_distinct before (g ∷ gs) h = let (a, b) = met_never g (def_in g.name before) (check_globals (g ∷ before) gs) h in (a, check_distinct (g ∷ before) gs b)

-- ---- a name met before does not come again
abbrev Some : Option Def → Type 0
Some none = ⊥
Some (some d) = Unit {0}

some_not_none : (o : Option Def) → Some o → o ≡ none → ⊥
some_not_none o s e = subst Some e s

met_more : (n : Text) (g : Global) (gs : List Global) → Some (def_in n gs) → Some (def_in n (g ∷ gs))
met_more n g gs s = go (same_as n g.name)
  where
    go : (b : Bool) → Some (cond b (some g.def) (def_in n gs))
    go true = tt
    go false = s

met_here : (n : Text) (g : Global) (gs : List Global) → n ≡ g.name → Some (def_in n (g ∷ gs))
met_here n g gs q = subst (λ (b : Bool). Some (cond b (some g.def) (def_in n gs))) (sym (eq_same_as n g.name q)) tt

no_clash : (before gs : List Global) → Distinct before gs → (g : Global) → Memᴰ g gs → Some (def_in g.name before) → ⊥
no_clash before [] h g i s = Memᴰ.not-nil i
no_clash before (x ∷ gs) h g (Memᴰ.head q) s = some_not_none (def_in x.name before) (subst (λ (z : Global). Some (def_in z.name before)) q s) h.0
no_clash before (x ∷ gs) h g (Memᴰ.tail i) s = no_clash (x ∷ before) gs h.1 g i (met_more g.name x before s)

-- ---- nonterminals
abbrev pub global_of : Nonterminal → Global
global_of d = record { name = d.name; def = nonterminal_def (length d.args); span = d.span }

-- one of the globals gs has the name n
abbrev Among : List Global → Text → Type 0
Among gs n = (g : Global) × Memᴰ g gs × (g.name ≡ n)

later : (x : Global) (gs : List Global) (n : Text) → Among gs n → Among (x ∷ gs) n
later x gs n (g, i, q) = (g, Memᴰ.tail i, q)

item_global : (G : Tree) (d : Nonterminal) → Memᴰ (item d) G → Among (nonterminals G) d.name
item_global [] d i = absurd (Memᴰ.not-nil i)
item_global (item x ∷ rest) d (Memᴰ.head q) = (global_of x, Memᴰ.head refl, ap (λ (z : Nonterminal). z.name) (sym (item_inj d x q)))
item_global (item x ∷ rest) d (Memᴰ.tail i) = later (global_of x) (nonterminals rest) d.name (item_global rest d i)
item_global (Item.terminal s o t ∷ rest) d (Memᴰ.head q) = absurd (item≢terminal d s o t q)
item_global (Item.terminal s o t ∷ rest) d (Memᴰ.tail i) = item_global rest d i

clashing : (x : Nonterminal) (before : List Global) (G : Tree) (more : List Global) → Distinct (global_of x ∷ before) (nonterminals G ++ more)
    → (d : Nonterminal) → Memᴰ (item d) G → d.name ≡ x.name → ⊥
clashing x before G more h d i p =
    let (g, j, q) = item_global G d i in
    no_clash (global_of x ∷ before) (nonterminals G ++ more) h g (Memᴰ.append_left more j) (met_here g.name (global_of x) before (q ∙ p))

name_of : (d x : Nonterminal) → item d ≡ item x → d.name ≡ x.name
name_of d x q = ap (λ (z : Nonterminal). z.name) (item_inj d x q)

pub one_nonterminal : (before : List Global) (G : Tree) (more : List Global) → Distinct before (nonterminals G ++ more)
    → (d e : Nonterminal) → Memᴰ (item d) G → Memᴰ (item e) G → d.name ≡ e.name → d ≡ e
one_nonterminal before [] more h d e i j p = absurd (Memᴰ.not-nil i)
one_nonterminal before (item x ∷ rest) more h d e (Memᴰ.head q) (Memᴰ.head r) p = item_inj d x q ∙ sym (item_inj e x r)
one_nonterminal before (item x ∷ rest) more h d e (Memᴰ.head q) (Memᴰ.tail j) p = absurd (clashing x before rest more h.1 e j (sym p ∙ name_of d x q))
one_nonterminal before (item x ∷ rest) more h d e (Memᴰ.tail i) (Memᴰ.head r) p = absurd (clashing x before rest more h.1 d i (p ∙ name_of e x r))
one_nonterminal before (item x ∷ rest) more h d e (Memᴰ.tail i) (Memᴰ.tail j) p = one_nonterminal (global_of x ∷ before) rest more h.1 d e i j p
one_nonterminal before (Item.terminal s o t ∷ rest) more h d e (Memᴰ.head q) j p = absurd (item≢terminal d s o t q)
one_nonterminal before (Item.terminal s o t ∷ rest) more h d e (Memᴰ.tail i) (Memᴰ.head r) p = absurd (item≢terminal e s o t r)
one_nonterminal before (Item.terminal s o t ∷ rest) more h d e (Memᴰ.tail i) (Memᴰ.tail j) p = one_nonterminal before rest more h d e i j p

-- ---- terminals
abbrev AmongTerminals : Tree → Text → Type 0
AmongTerminals G n = Among (externs G) n ⊎ Among (matches G) n

-- the terminal t before the others
terminal_first : (s : Span) (o : Source) (t : Text) (rest : Tree) (n : Text) → t ≡ n → AmongTerminals (Item.terminal s o t ∷ rest) n
terminal_first s extern t rest n e = inl (_, Memᴰ.head refl, e)
terminal_first s match t rest n e = inr (_, Memᴰ.head refl, e)

terminal_later : (s : Span) (o : Source) (t : Text) (rest : Tree) (n : Text) → AmongTerminals rest n → AmongTerminals (Item.terminal s o t ∷ rest) n
terminal_later s extern t rest n (inl k) = inl (later _ (externs rest) n k)
terminal_later s extern t rest n (inr k) = inr k
terminal_later s match t rest n (inl k) = inl k
terminal_later s match t rest n (inr k) = inr (later _ (matches rest) n k)

terminal_among : (G : Tree) (n : Text) → is_terminal G n ≡ true → AmongTerminals G n
terminal_among [] n h = absurd (false≢true h)
terminal_among (item d ∷ rest) n h = terminal_among rest n h
terminal_among (Item.terminal s o t ∷ rest) n h = go (or_cases (same_as n t) (is_terminal rest n) h) (terminal_among rest n)
  where
    go : (same_as n t ≡ true) ⊎ (is_terminal rest n ≡ true) → (is_terminal rest n ≡ true → AmongTerminals rest n) → AmongTerminals (Item.terminal s o t ∷ rest) n
    go (inl e) k = terminal_first s o t rest n (sym (same_as-eq n t e))
    go (inr e) k = terminal_later s o t rest n (k e)

terminal_global : (G : Tree) (n : Text) → is_terminal G n ≡ true → Among (externs G ++ matches G) n
terminal_global G n h = go (terminal_among G n h)
  where
    go : AmongTerminals G n → Among (externs G ++ matches G) n
    go (inl (g, i, q)) = (g, Memᴰ.append_left (matches G) i, q)
    go (inr (g, i, q)) = (g, Memᴰ.append_right (externs G) i, q)

-- the first globals once met, the name of one of them is met
past : (before xs ys : List Global) → Distinct before (xs ++ ys) → (n : Text) → Some (def_in n before) ⊎ Among xs n → (b : List Global) × Distinct b ys × Some (def_in n b)
past before [] ys h n (inl s) = (before, h, s)
past before [] ys h n (inr (g, i, q)) = absurd (Memᴰ.not-nil i)
past before (x ∷ xs) ys h n (inl s) = past (x ∷ before) xs ys h.1 n (inl (met_more n x before s))
past before (x ∷ xs) ys h n (inr (g, Memᴰ.head p, q)) = past (x ∷ before) xs ys h.1 n (inl (met_here n x before (sym q ∙ ap (λ (z : Global). z.name) p)))
past before (x ∷ xs) ys h n (inr (g, Memᴰ.tail i, q)) = past (x ∷ before) xs ys h.1 n (inr (g, i, q))

pub no_terminal : (G : Tree) → Distinct [] (globals G) → (d : Nonterminal) → Memᴰ (item d) G → is_terminal G d.name ≡ false
no_terminal G h d i = go (test (is_terminal G d.name))
  where
    go : (is_terminal G d.name ≡ true) ⊎ (is_terminal G d.name ≡ false) → is_terminal G d.name ≡ false
    go (inr e) = e
    go (inl e) =
        let (b, hb, s) = past [] (nonterminals G) (externs G ++ matches G) h d.name (inr (item_global G d i)) in
        let (y, k, p) = terminal_global G d.name e in
        absurd (no_clash b (externs G ++ matches G) hb y k (subst (λ (z : Text). Some (def_in z b)) (sym p) s))
