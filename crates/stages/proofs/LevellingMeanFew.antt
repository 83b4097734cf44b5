-- How many alternatives a resolved tree has: by its bytes, and by its names, since no two nonterminals share one. Assumes nothing.
use mathlib.Core.Path.{◌≡◌, refl, sym, ap, ◌∙◌}
use mathlib.Core.Bool.{Bool, true, false, not, cond}
use mathlib.Core.List.{List, [], ◌∷◌, ◌++◌, map}
use mathlib.Core.Option.{Option, none, some}
use Prim.Native.Nat.{ℕ, suc, ◌+◌, ◌*◌, ◌≤◌}
use native.Mathlib.Omega.{arith}
use borrow.Author.Tests.{not-true}
use lib.Dec.{eqb}
use lib.ListN.{length, length-append, length-map}
use Rattle.octets.specs.Plain.Runs.{same_as}
use Rattle.octets.proofs.SameLaws.{same_as-eq, same_as-sym}
use Rattle.parse_tree.specs.Plain.Tree.{Text, Alternative, Nonterminal, Item, item, terminal, Stage, conditions}
use Rattle.parse_tree.specs.Plain.Texts.{has, distinct}
use Rattle.parse_tree.specs.Plain.WriteTape.{bytes_of_each}
use Rattle.parse_tree.specs.Working.Nodes.{node_bytes, size_of}
use Rattle.parse_tree.specs.Working.Encode.{argument_bytes, attribute_bytes, condition_bytes, syms_bytes, alternative_bytes, item_bytes, nonterminal_node, alternative_node}
use Rattle.parse_tree.specs.Working.Within.{Each, ItemWithin, StageWithin}
use Rattle.parse_tree.proofs.SizeLaws.{nonterminal_size, alternative_size}
use Rattle.parse_tree.proofs.TextLaws.{both, and_both}
use Rattle.validate.proofs.NotesCode.{item_long}
use Rattle.passes.specs.Outcome.{Tree, Outcome, yes, no}
use Rattle.passes.specs.Resolve.{Def, Global, nonterminals, externs, matches, globals, def_in, kind, met_again, check_globals, validate_macro_args, validate_alternatives, validate_items, resolve}
use Rattle.passes.proofs.Outcomes.{no≢yes, yes_inj, after-yes}
use Rattle.passes.proofs.ResolveKeeps.{alternatives_kept}
use Rattle.levels.specs.Whole.{alternatives_in}

-- ---- an alternative has 16 bytes or more, an item 11 besides
alternative_long : (ts : List Text) (a : Alternative) → 16 ≤ length (alternative_bytes 2 ts a)
unfolding alternative_bytes alternative_node size_of
alternative_long ts a =
    let n = alternative_node ts a in
    let z : 14 + 2 ≡ length (node_bytes 2 n) = alternative_size 2 n _ refl in
    omega (arith, length-append (node_bytes 2 n) (bytes_of_each (attribute_bytes 2 ts) a.attributes ++ (bytes_of_each (condition_bytes 2 ts) (conditions a.condition) ++ syms_bytes 2 ts a.symbols)))

all_long : (ts : List Text) (cs : List Alternative) → 16 * length cs ≤ length (bytes_of_each (alternative_bytes 2 ts) cs)
unfolding bytes_of_each
all_long ts [] = omega arith
all_long ts (c ∷ cs) = omega (arith, alternative_long ts c, all_long ts cs, length-append (alternative_bytes 2 ts c) (bytes_of_each (alternative_bytes 2 ts) cs))

nonterminal_long : (ts : List Text) (d : Nonterminal) → 16 * length d.alternatives + 15 ≤ length (item_bytes 2 ts (item d))
unfolding item_bytes nonterminal_node size_of
nonterminal_long ts d =
    let n = nonterminal_node ts d in
    let as' = bytes_of_each (argument_bytes 2 ts) d.args in
    let cs = bytes_of_each (alternative_bytes 2 ts) d.alternatives in
    let z : 13 + 2 ≡ length (node_bytes 2 n) = nonterminal_size 2 n _ refl in
    omega (arith, all_long ts d.alternatives, length-append (node_bytes 2 n) (as' ++ cs), length-append as' cs)

-- theorem: so items have few alternatives for their bytes
pub alternatives_few : (ts : List Text) (R : List Item) → 16 * alternatives_in R + 11 * length R ≤ length (bytes_of_each (item_bytes 2 ts) R)
unfolding alternatives_in bytes_of_each
alternatives_few ts [] = omega arith
alternatives_few ts (item d ∷ rest) = omega (arith, nonterminal_long ts d, alternatives_few ts rest, length-append (item_bytes 2 ts (item d)) (bytes_of_each (item_bytes 2 ts) rest))
alternatives_few ts (terminal s o x ∷ rest) =
    omega (arith, item_long 2 ts (terminal s o x) (omega arith), alternatives_few ts rest, length-append (item_bytes 2 ts (terminal s o x)) (bytes_of_each (item_bytes 2 ts) rest))

-- ---- different texts, all among ts, are at most as many
-- ts without the first text that is x
unfoldable without : Text → List Text → List Text
without x [] = []
without x (t ∷ ts) = elim (same_as t x) [ true ↦ ts | false ↦ t ∷ without x ts ]

without_length : (x : Text) (ts : List Text) → has x ts ≡ true → length ts ≡ suc (length (without x ts))
unfolding without has
without_length x [] h = absurd (let z : ◌≡◌ {A = ℕ} 0 1 = cc in omega arith)
without_length x (t ∷ ts) h = go (same_as t x) h (without_length x ts)
  where
    go : (b : Bool) → elim b [ true ↦ true | false ↦ has x ts ] ≡ true → (has x ts ≡ true → length ts ≡ suc (length (without x ts))) → suc (length ts) ≡ suc (length {A = Text} (elim b [ true ↦ ts | false ↦ t ∷ without x ts ]))
    go true e f = refl
    go false e f = ap suc (f e)

without_has : (x y : Text) (ts : List Text) → same_as x y ≡ false → has y ts ≡ true → has y (without x ts) ≡ true
unfolding without has
without_has x y [] d h = h
without_has x y (t ∷ ts) d h = go (same_as t x) refl (same_as t y) refl h (without_has x y ts d)
  where
    go : (b : Bool) → same_as t x ≡ b → (c : Bool) → same_as t y ≡ c → elim c [ true ↦ true | false ↦ has y ts ] ≡ true → (has y ts ≡ true → has y (without x ts) ≡ true)
        → has y (elim b [ true ↦ ts | false ↦ t ∷ without x ts ]) ≡ true
    go true e true q k f = absurd (let i : t ≡ x = same_as-eq t x e in let z : true ≡ false = sym q ∙ ap (λ (u : Text). same_as u y) i ∙ d in let n : ◌≡◌ {A = ℕ} 0 1 = cc in omega arith)
    go true e false q k f = k
    go false e true q k f = rw (has, q) refl
    go false e false q k f = rw (has, q) (f k)

without_each : (x : Text) (ts xs : List Text) → has x xs ≡ false → Each (λ (y : Text). has y ts ≡ true) xs → Each (λ (y : Text). has y (without x ts) ≡ true) xs
unfolding has
without_each x ts [] h k = tt
without_each x ts (y ∷ ys) h k = go (same_as y x) refl h (without_each x ts ys)
  where
    go : (b : Bool) → same_as y x ≡ b → elim b [ true ↦ true | false ↦ has x ys ] ≡ false → (has x ys ≡ false → Each (λ (z : Text). has z ts ≡ true) ys → Each (λ (z : Text). has z (without x ts) ≡ true) ys)
        → Each (λ (z : Text). has z (without x ts) ≡ true) (y ∷ ys)
    go true e q f = absurd (let n : ◌≡◌ {A = ℕ} 0 1 = cc in omega arith)
    go false e q f = (without_has x y ts (same_as-sym x y ∙ e) k.0, f q k.1)

-- theorem: the pigeonhole
pub different_few : (xs ts : List Text) → distinct xs ≡ true → Each (λ (y : Text). has y ts ≡ true) xs → length xs ≤ length ts
unfolding distinct
different_few [] ts d h = omega arith
different_few (x ∷ xs) ts d h =
    let b = both (not (has x xs)) (distinct xs) d in
    omega (arith, without_length x ts h.0, different_few xs (without x ts) b.1 (without_each x ts xs (not-true (has x xs) b.0) h.1))

-- ---- globals whose names are met once
abbrev names : List Global → List Text
names gs = map (λ (g : Global). g.name) gs

not_met : (n : Text) (gs : List Global) → def_in n gs ≡ none → has n (names gs) ≡ false
unfolding has
not_met n [] e = refl
not_met n (g ∷ gs) e = go (same_as n g.name) refl e (not_met n gs)
  where
    go : (b : Bool) → same_as n g.name ≡ b → cond b (some g.def) (def_in n gs) ≡ none → (def_in n gs ≡ none → has n (names gs) ≡ false) → elim (same_as g.name n) [ true ↦ true | false ↦ has n (names gs) ] ≡ false
    go true q k f = absurd (let z : ◌≡◌ {A = ℕ} 0 1 = cc in omega arith)
    go false q k f = let z : same_as g.name n ≡ false = same_as-sym g.name n ∙ q in rw z (f k)

-- what the first passed, and what the others did
met_once : (g : Global) (o : Option Def) (k : Outcome (Unit {0})) → met_again g o k ≡ yes tt → (o ≡ none) × (k ≡ yes tt)
met_once g none k e = (refl, e)
met_once g (some d) k e = absurd (go (eqb (kind g.def) (kind d)) e)
  where
    go : (b : Bool) → ◌≡◌ {A = Outcome (Unit {0})} (cond b (no 5 g.span) (no 6 g.span)) (yes tt) → ⊥
    go true q = no≢yes 5 g.span tt q
    go false q = no≢yes 6 g.span tt q

globals-few : (ts : List Text) (gs more before : List Global) → check_globals before (gs ++ more) ≡ yes tt → distinct (names before) ≡ true → Each (λ (y : Text). has y ts ≡ true) (names before)
    → Each (λ (y : Text). has y ts ≡ true) (names gs) → length before + length gs ≤ length ts
unfolding check_globals distinct
globals-few ts [] more before e d h k = omega (arith, different_few (names before) ts d h, length-map before (λ (g : Global). g.name))
globals-few ts (g ∷ gs) more before e d h k =
    let z = met_once g (def_in g.name before) (check_globals (g ∷ before) (gs ++ more)) e in
    let n : not (has g.name (names before)) ≡ true = rw (not_met g.name before z.0) refl in
    omega (arith, globals-few ts gs more (g ∷ before) z.1 (and_both (not (has g.name (names before))) (distinct (names before)) n d) (k.0, h) k.1)

names_there : (ts : List Text) (is : List Item) → Each (ItemWithin true 2 ts) is → Each (λ (y : Text). has y ts ≡ true) (names (nonterminals is))
names_there ts [] h = tt
names_there ts (item d ∷ is) h = (h.0.name.0, names_there ts is h.1)
names_there ts (terminal s o x ∷ is) h = names_there ts is h.1

-- ---- each has at most 65,535 alternatives, resolved too
alternatives_most : (G : Tree) (ts : List Text) (is R : List Item) → Each (ItemWithin true 2 ts) is → validate_items G is ≡ yes R → alternatives_in R ≤ 65535 * length (nonterminals is)
unfolding validate_items alternatives_in
alternatives_most G ts [] R h p = rw (← yes_inj [] R p) (omega arith)
alternatives_most G ts (item d ∷ is) R h p =
    let a = after-yes (validate_macro_args d) _ R p in
    let b = after-yes (validate_alternatives G d.args d.alternatives) _ R a.2 in
    let c = after-yes (validate_items G is) _ R b.2 in
    rw (← yes_inj _ R c.2) (omega (arith, h.0.fewer, alternatives_kept G d.args d.alternatives b.0 b.1, alternatives_most G ts is c.0 h.1 c.1))
alternatives_most G ts (terminal s o x ∷ is) R h p =
    let c = after-yes (validate_items G is) _ R p in
    rw (← yes_inj _ R c.2) (alternatives_most G ts is c.0 h.1 c.1)

-- theorem: with a name for each level the texts of a resolved tape are at most 2 ^ 32; as many for 65,536 nonterminals of 65,535 alternatives each
pub names_most : (g : Stage) (R : List Item) → resolve g.items ≡ yes R → StageWithin true 2 g → length g.atoms ≤ 65536 → length g.atoms + alternatives_in R ≤ 4294967296
unfolding resolve distinct
names_most g R p k l =
    let a = after-yes (check_globals [] (globals g.items)) _ R p in
    let z : check_globals [] (globals g.items) ≡ yes tt = a.1 in
    let n : 0 + length (nonterminals g.items) ≤ length g.atoms = globals-few g.atoms (nonterminals g.items) (externs g.items ++ matches g.items) [] z refl tt (names_there g.atoms g.items k.items) in
    omega (arith, n, alternatives_most g.items g.atoms g.items R k.items a.2)
