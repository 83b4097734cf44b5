-- A resolved grammar has at most as many items as the tape has atoms: no name is met twice. Assumes nothing.
use mathlib.Core.Path.{◌≡◌, refl, sym, ap, ◌∙◌}
use mathlib.Core.Bool.{Bool, true, false, not, cond}
use mathlib.Core.List.{List, [], ◌∷◌, ◌++◌, map}
use mathlib.Core.Option.{none, some}
use Prim.Native.Nat.{ℕ, zero, suc, ◌+◌, ◌<◌, ◌≤◌}
use native.Mathlib.Omega.{arith}
use lib.ListN.{length, get_or, length-append, length-map}
use Rattle.octets.specs.Plain.Runs.{same_as}
use Rattle.octets.proofs.SameLaws.{same_as-sym}
use Rattle.parse_tree.specs.Plain.Tree.{Text, Item, item, extern, match, Stage}
use Rattle.parse_tree.specs.Plain.Texts.{has, number, distinct}
use Rattle.parse_tree.specs.Working.Within.{Each, ItemWithin, StageWithin}
use Rattle.parse_tree.proofs.ReadingLaws.{each_append}
use Rattle.parse_tree.proofs.TextLaws.{number-below, text_number, number-text, and_both}
use Rattle.parse_tree.proofs.NothingNew.{There}
use Rattle.passes.specs.Outcome.{Tree, yes}
use Rattle.passes.specs.Resolve.{Global, nonterminals, externs, matches, globals, def_in, check_globals, resolve}
use Rattle.passes.proofs.Outcomes.{after-yes}
use Rattle.passes.proofs.ResolveWithin.{resolve-alike}
use Rattle.meaning.proofs.Resolving.Globals.{Distinct, check_distinct}
use Rattle.appending.proofs.BuiltRoom.{different_few}

-- ---- different texts, all among ts, are at most as many
there_at : (ts xs : List Text) → There ts xs → (i : ℕ) → i < length xs → has (get_or xs i []) ts ≡ true
there_at ts [] h i l = absurd (omega arith)
there_at ts (x ∷ xs) h zero l = h.0
there_at ts (x ∷ xs) h (suc i) l = there_at ts xs h.1 i (omega arith)

texts-few : (ts xs : List Text) → distinct xs ≡ true → There ts xs → length xs ≤ length ts
texts-few ts xs d h = different_few (length xs) (length ts) (λ i. number ts (get_or xs i [])) (λ i l. number-below ts (get_or xs i []) (there_at ts xs h i l)) one
  where
    back : (i : ℕ) → i < length xs → get_or ts (number ts (get_or xs i [])) [] ≡ get_or xs i []
    back i l = text_number ts (get_or xs i []) (there_at ts xs h i l)

    one : (i j : ℕ) → i < length xs → j < length xs → number ts (get_or xs i []) ≡ number ts (get_or xs j []) → i ≡ j
    one i j l m e =
        let z : get_or xs i [] ≡ get_or xs j [] = sym (back i l) ∙ ap (λ (k : ℕ). get_or ts k []) e ∙ back j m in
        sym (number-text xs i d l) ∙ ap (number xs) z ∙ number-text xs j d m

-- ---- globals whose names are met once
abbrev names : List Global → List Text
names gs = map (λ (g : Global). g.name) gs

not_met : (n : Text) (gs : List Global) → def_in n gs ≡ none → has n (names gs) ≡ false
unfolding has
not_met n [] e = refl
not_met n (g ∷ gs) e = rw (has, same_as-sym g.name n) (go (same_as n g.name) e (not_met n gs))
  where
    go : (b : Bool) → cond b (some g.def) (def_in n gs) ≡ none → (def_in n gs ≡ none → has n (names gs) ≡ false) → elim b [ true ↦ true | false ↦ has n (names gs) ] ≡ false
    go true k f = absurd (let z : ◌≡◌ {A = ℕ} 0 1 = cc in omega arith)
    go false k f = f k

globals-few : (ts : List Text) (before gs : List Global) → Distinct before gs → distinct (names before) ≡ true → There ts (names before) → There ts (names gs) → length before + length gs ≤ length ts
unfolding distinct
globals-few ts before [] e d h k = omega (arith, texts-few ts (names before) d h, length-map before (λ (g : Global). g.name))
globals-few ts before (g ∷ gs) e d h k =
    let n : not (has g.name (names before)) ≡ true = rw (not_met g.name before e.0) refl in
    omega (arith, globals-few ts (g ∷ before) gs e.1 (and_both (not (has g.name (names before))) (distinct (names before)) n d) (k.0, h) k.1)

-- ---- the globals of items: one of each, its name an atom
globals-many : (is : Tree) → length (nonterminals is) + (length (externs is) + length (matches is)) ≡ length is
globals-many [] = refl
globals-many (item d ∷ is) = omega (arith, globals-many is)
globals-many (Item.terminal s extern x ∷ is) = omega (arith, globals-many is)
globals-many (Item.terminal s match x ∷ is) = omega (arith, globals-many is)

globals-length : (is : Tree) → length (globals is) ≡ length is
globals-length is = omega (arith, globals-many is, length-append (nonterminals is) (externs is ++ matches is), length-append (externs is) (matches is))

module _ (four : Bool) (ts : List Text) where
  -- the name of a global is an atom
  abbrev Named : List Global → Type 0
  Named gs = Each (λ (g : Global). has g.name ts ≡ true) gs

  nonterminals-named : (is : Tree) → Each (ItemWithin four 2 ts) is → Named (nonterminals is)
  nonterminals-named [] h = tt
  nonterminals-named (item d ∷ is) h = (h.0.name.0, nonterminals-named is h.1)
  nonterminals-named (Item.terminal s o x ∷ is) h = nonterminals-named is h.1

  externs-named : (is : Tree) → Each (ItemWithin four 2 ts) is → Named (externs is)
  externs-named [] h = tt
  externs-named (item d ∷ is) h = externs-named is h.1
  externs-named (Item.terminal s extern x ∷ is) h = (h.0.1.0, externs-named is h.1)
  externs-named (Item.terminal s match x ∷ is) h = externs-named is h.1

  matches-named : (is : Tree) → Each (ItemWithin four 2 ts) is → Named (matches is)
  matches-named [] h = tt
  matches-named (item d ∷ is) h = matches-named is h.1
  matches-named (Item.terminal s extern x ∷ is) h = matches-named is h.1
  matches-named (Item.terminal s match x ∷ is) h = (h.0.1.0, matches-named is h.1)

  named-there : (gs : List Global) → Named gs → There ts (names gs)
  named-there [] h = tt
  named-there (g ∷ gs) h = (h.0, named-there gs h.1)

  globals-there : (is : Tree) → Each (ItemWithin four 2 ts) is → There ts (names (globals is))
  globals-there is h =
      let P : Global → Type 0 = λ (g : Global). has g.name ts ≡ true in
      named-there (globals is)
      (each_append P (nonterminals is) (externs is ++ matches is) (nonterminals-named is h) (each_append P (externs is) (matches is) (externs-named is h) (matches-named is h)))

-- theorem: questions 5 and 6 leave no more items than atoms
pub resolved-few : (four : Bool) (g : Stage) (R : Tree) → StageWithin four 2 g → resolve g.items ≡ yes R → length R ≤ length g.atoms
unfolding resolve distinct
resolved-few four g R k p =
    let a = after-yes (check_globals [] (globals g.items)) _ R p in
    let d = check_distinct [] (globals g.items) a.1 in
    let n : 0 + length (globals g.items) ≤ length g.atoms = globals-few g.atoms [] (globals g.items) d refl tt (globals-there four g.atoms g.items k.items) in
    omega (arith, n, globals-length g.items, (resolve-alike four 2 g.atoms g.items R p).many)
