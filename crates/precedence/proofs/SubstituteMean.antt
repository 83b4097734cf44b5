-- What substituting means: the symbols' bytes become those of the symbols with their occurrences replaced, as the side says. Assumes nothing.
use mathlib.Core.Path.{◌≡◌, refl, sym, ap, ◌∙◌}
use mathlib.Core.Bool.{Bool, true, false, cond}
use mathlib.Core.Logic.{inr}
use mathlib.Core.List.{List}
use Prim.Native.Nat.{ℕ, zero, suc, ◌+◌, ◌<◌, ◌≤◌}
use native.Mathlib.Omega.{arith}
use borrow.Author.Tests.{eq-eqb, ne_eqb}
use lib.Dec.{eqb}
use Rattle.std.specs.Prelude.{Option, Some, None}
use Rattle.octets.specs.Working.Choice.{pick}
use Rattle.octets.specs.Plain.Numbers.{le}
use Rattle.octets.specs.Plain.Runs.{same_as, Lies}
use Rattle.octets.specs.Working.Stores.{store}
use Rattle.octets.proofs.NumbersLaws.{length-le}
use Rattle.octets.proofs.SameLaws.{same_as-eq}
use Rattle.parse_tree.specs.Plain.Tree.{Text, Leaf, Sym, Syms, ambiguous, bare, quoted, regex, nonterminal, lookahead, lookbehind, error, leaf, around, over, nil, cons}
use Rattle.parse_tree.specs.Plain.Texts.{has, number}
use Rattle.parse_tree.specs.Working.Encode.{syms_bytes}
use Rattle.parse_tree.specs.declared.syntax.Span.{Span}
use Rattle.passes.specs.Grades.{Side, all, non, left, right, ceiling}
use Rattle.passes.specs.Levels.{occurs, occurs_in, replace_occurrences, replace_occurrences_in}
use Rattle.laws.specs.Flat.{fold_syms}
use Rattle.laws.specs.Rename.{rename}
use Rattle.laws.proofs.Flat.{SymsFits}
use Rattle.laws.proofs.Patch.{store_same}
use Rattle.laws.proofs.Rename.{number-tells, renamed_syms}
use Rattle.resolve.proofs.CellsLaws.{store-past, store-over}
use Rattle.grades.specs.declared.Assoc.{Assoc}
use Rattle.precedence.specs.declared.substitute.Marks.{Marks}
use Rattle.precedence.specs.Substitute.{marked_at, name_out, replace_all, substitute_out}
use Rattle.precedence.proofs.SubstituteRuns.{related_all, mark, run_fold, Moves, Meets, kept_by}

-- the side that an associativity is
abbrev pub side_meant : Assoc → Side
side_meant Assoc.Left = left
side_meant Assoc.Right = right
side_meant Assoc.NonAssoc = non
side_meant Assoc.FullyAssoc = all

-- of two names at one place the second is left
store-name : (wd : ℕ) (w : List ℕ) (at u v : ℕ) → store w at (le wd v) ≡ store (store w at (le wd u)) at (le wd v)
store-name wd w at u v = sym (store-over w at (le wd u) (le wd v) (length-le wd u ∙ sym (length-le wd v)))

pair_is : (τ : List ℕ × ℕ) (s : List ℕ) (n : ℕ) → τ.0 ≡ s → τ.1 ≡ n → τ ≡ (s, n)
pair_is τ s n p q = ap {B = List ℕ × ℕ} (λ (r : List ℕ). (r, τ.1)) p ∙ ap {B = List ℕ × ℕ} (λ (k : ℕ). (s, k)) q

none_more : (n : ℕ) → 0 + n ≡ n
none_more n = omega arith

-- ---- occurrences that are replaced by themselves
module _ (E : Text) where
  same_name : (n : Text) (b : Bool) → same_as n E ≡ b → cond b (nonterminal E) (nonterminal n) ≡ nonterminal n
  same_name n true z = ap nonterminal (sym (same_as-eq n E z))
  same_name n false z = refl

  same_leaf : (s : Span) (l : Leaf) (j : ℕ) → replace_occurrences E (λ i. E) (leaf s l) j ≡ leaf s l
  unfolding replace_occurrences
  same_leaf s (ambiguous n) j = refl
  same_leaf s (bare n) j = refl
  same_leaf s (quoted t) j = refl
  same_leaf s (regex t) j = refl
  same_leaf s (nonterminal n) j = ap (leaf s) (same_name n (same_as n E) refl)
  same_leaf s lookahead j = refl
  same_leaf s lookbehind j = refl
  same_leaf s error j = refl

  mutual
    unfolding replace_occurrences

    same_sym : (x : Sym) (j : ℕ) → replace_occurrences E (λ i. E) x j ≡ x
    same_sym (leaf s l) j = same_leaf s l j
    same_sym (around s a x) j = ap (around s a) (same_sym x j)
    same_sym (over s o xs) j = ap (over s o) (same_all xs j)

    same_all : (xs : Syms) (j : ℕ) → replace_occurrences_in E (λ i. E) xs j ≡ xs
    same_all nil j = refl
    same_all (cons x xs) j = cc (same_sym x j, same_all xs (j + occurs E x))

module _ (wd : ℕ) (ts : List Text) (E : Text) (e : ℕ) where
  abbrev State : Type 0
  State = List ℕ × Option Marks

  abbrev start : List ℕ → State
  start w = (w, None)

  -- ---- the run beside the fold that replaces, the one in work and the other in the tree; F names occurrence j, `rest` all of them
  module _ (known : has E ts ≡ true) (F : ℕ → Text) (rest : Text) (R : ℕ → State → List ℕ × ℕ → Type 0) where
    abbrev Ends : Syms → List ℕ → ℕ → Type 0
    Ends xs w at =
        (j : ℕ) × (σ : State) × (replace_all wd (number ts E) (number ts rest) w at e ≡ σ) × (j ≡ occurs_in E xs) × R e σ (store w at (syms_bytes wd ts (replace_occurrences_in E F xs 0)), j)

    ends : Moves wd (number ts E) ts (number ts rest) e (λ j. number ts (F j)) R → Meets wd (number ts E) ts (number ts rest) e (λ j. number ts (F j)) R
        → (xs : Syms) → SymsFits wd ts xs → (w : List ℕ) (at : ℕ) → Lies w at (syms_bytes wd ts xs) e → R at (start w) (w, 0) → Ends xs w at
    unfolding replace_all
    ends h k xs f w at l r =
        let g = renamed_syms wd ts E F known xs (w, 0) at e l in
        let c = related_all wd ts (mark wd (number ts E) ts (number ts rest) e) (rename wd (number ts E) (λ j. number ts (F j))) R e
        (kept_by wd (number ts E) ts (number ts rest) e (λ j. number ts (F j)) R h k) xs (start w) (w, 0) at e l.end (omega arith) r in
        let z : fold_syms wd (rename wd (number ts E) (λ j. number ts (F j))) ts xs (w, 0) at ≡ (store w at (syms_bytes wd ts (replace_occurrences_in E F xs 0)), occurs_in E xs) = pair_is _ _ _ g.0 (g.1 ∙ none_more _) in
        (occurs_in E xs, _, run_fold wd (number ts E) ts (number ts rest) e e xs f (start w) at (omega arith) l, refl, rw z at c)

  -- ---- all to one name
  module _ (known : has E ts ≡ true) (A : Text) where
    abbrev Same : ℕ → State → List ℕ × ℕ → Type 0
    Same p σ τ = τ.0 ≡ σ.0

    all_means : (xs : Syms) → SymsFits wd ts xs → (w : List ℕ) (at : ℕ) → Lies w at (syms_bytes wd ts xs) e
        → (replace_all wd (number ts E) (number ts A) w at e).0 ≡ store w at (syms_bytes wd ts (replace_occurrences_in E (λ j. A) xs 0))
    all_means xs f w at l =
        let x = ends known (λ j. A) A Same (λ p q σ τ i r. r) (λ p σ τ i r. ap (λ (s : List ℕ). store s (p + 9) (le wd (number ts A))) r) xs f w at l refl in
        ap (λ (σ : State). σ.0) x.2 ∙ sym x.4

  module _ (known : has E ts ≡ true) (own low : Text) where
    abbrev here : ℕ
    here = number ts own

    abbrev below : ℕ
    below = number ts low

    -- ---- left: the first occurrence is to be named again
    record First (p : ℕ) (σ : State) (τ : List ℕ × ℕ) : Type 0 where
      none : τ.1 ≡ 0 → (σ.1 ≡ None) × (τ.0 ≡ σ.0)
      some : 0 < τ.1 → (m : Marks) × (σ.1 ≡ Some m) × (m.first + (9 + wd) ≤ p) × (τ.0 ≡ store σ.0 (m.first + 9) (le wd here))

    abbrev left_name : ℕ → Text
    left_name j = cond (eqb j 0) own low

    first-meets : Meets wd (number ts E) ts below e (λ j. number ts (left_name j)) First
    unfolding marked_at
    first-meets p σ τ i r = record { none = λ z. absurd (omega (arith, z)); some = λ z. let g = go τ.1 refl in (marked_at p σ.1, refl, g.0, g.1) }
      where
        go : (j : ℕ) → τ.1 ≡ j
            → ((marked_at p σ.1).first + (9 + wd) ≤ p + (9 + wd))
            × (store τ.0 (p + 9) (le wd (number ts (left_name τ.1))) ≡ store (store σ.0 (p + 9) (le wd below)) ((marked_at p σ.1).first + 9) (le wd here))
        go zero z =
            let a = r.none z in
            let b : (marked_at p σ.1).first ≡ p = ap (λ (m : Option Marks). (marked_at p m).first) a.0 in
            rw b (omega arith, cc (z, a.1, store-name wd σ.0 (p + 9) below here))
        go (suc j) z =
            let a = r.some (omega arith) in
            let k = a.0.first in
            let b : (marked_at p σ.1).first ≡ k = ap (λ (m : Option Marks). (marked_at p m).first) a.1 in
            rw b (omega (arith, a.2), cc (z, a.3, ne_eqb (suc j) 0 (λ q. absurd (omega (arith, q))), store-past σ.0 (k + 9) (p + 9) (le wd here) (le wd below) (inr (omega (arith, a.2, length-le wd here)))))

    first_moves : Moves wd (number ts E) ts below e (λ j. number ts (left_name j)) First
    first_moves p q σ τ i r = record { none = r.none; some = λ z. let a = r.some z in (a.0, a.1, omega (arith, a.2), a.3) }

    first_named : (σ : State) (τ : List ℕ × ℕ) → First e σ τ → name_out wd σ.0 (λ m. m.first) σ.1 here ≡ τ.0
    unfolding name_out
    first_named σ τ r = go τ.1 refl
      where
        go : (j : ℕ) → τ.1 ≡ j → name_out wd σ.0 (λ m. m.first) σ.1 here ≡ τ.0
        go zero z = let a = r.none z in ap (λ (m : Option Marks). name_out wd σ.0 (λ m. m.first) m here) a.0 ∙ sym a.1
        go (suc j) z = let a = r.some (omega arith) in ap (λ (m : Option Marks). name_out wd σ.0 (λ m. m.first) m here) a.1 ∙ sym a.3

    first_start : (w : List ℕ) (at : ℕ) → First at (start w) (w, 0)
    first_start w at = record { none = λ z. (refl, refl); some = λ z. absurd (omega (arith, z)) }

    left_means : (xs : Syms) → SymsFits wd ts xs → (w : List ℕ) (at : ℕ) → Lies w at (syms_bytes wd ts xs) e
        → substitute_out wd w at e (number ts E) here below Assoc.Left ≡ store w at (syms_bytes wd ts (replace_occurrences_in E left_name xs 0))
    unfolding substitute_out
    left_means xs f w at l =
        let x = ends known left_name low First first_moves first-meets xs f w at l (first_start w at) in
        ap (λ (σ : State). name_out wd σ.0 (λ m. m.first) σ.1 here) x.2 ∙ first_named x.1 _ x.4

    -- ---- right: the last occurrence is to be named again
    last_mark : (p : ℕ) (m : Option Marks) → (marked_at p m).last ≡ p
    unfolding marked_at
    last_mark p (Some m) = refl
    last_mark p None = refl

    module _ (total : ℕ) where
      record Last (p : ℕ) (σ : State) (τ : List ℕ × ℕ) : Type 0 where
        none : τ.1 ≡ 0 → (σ.1 ≡ None) × (τ.0 ≡ σ.0)
        some : τ.1 < total → τ.0 ≡ σ.0
        whole : 0 < τ.1 → τ.1 ≡ total → (m : Marks) × (σ.1 ≡ Some m) × (m.last + (9 + wd) ≤ p) × (τ.0 ≡ store σ.0 (m.last + 9) (le wd here))

      abbrev right_name : ℕ → Text
      right_name j = cond (eqb (suc j) total) own low

      last_meets : Meets wd (number ts E) ts below e (λ j. number ts (right_name j)) Last
      unfolding marked_at
      last_meets p σ τ i r = record {
        none = λ z. absurd (omega (arith, z));
        some = λ z. cc (r.some (omega arith), ne_eqb (suc τ.1) total (λ q. absurd (omega (arith, q))));
        whole = λ y z. let b = last_mark p σ.1 in (marked_at p σ.1, refl, rw b (omega arith), rw b (cc (r.some (omega arith), eq-eqb (suc τ.1) total z, store-name wd σ.0 (p + 9) below here)));
      }

      last-moves : Moves wd (number ts E) ts below e (λ j. number ts (right_name j)) Last
      last-moves p q σ τ i r = record { none = r.none; some = r.some; whole = λ y z. let a = r.whole y z in (a.0, a.1, omega (arith, a.2), a.3) }

      last-named : (σ : State) (s : List ℕ) → Last e σ (s, total) → name_out wd σ.0 (λ m. m.last) σ.1 here ≡ s
      unfolding name_out
      last-named σ s r = go total refl
        where
          go : (j : ℕ) → total ≡ j → name_out wd σ.0 (λ m. m.last) σ.1 here ≡ s
          go zero z = let a = r.none z in ap (λ (m : Option Marks). name_out wd σ.0 (λ m. m.last) m here) a.0 ∙ sym a.1
          go (suc j) z = let a = r.whole (omega arith) refl in ap (λ (m : Option Marks). name_out wd σ.0 (λ m. m.last) m here) a.1 ∙ sym a.3

      last-start : (w : List ℕ) (at : ℕ) → Last at (start w) (w, 0)
      last-start w at = record { none = λ z. (refl, refl); some = λ z. refl; whole = λ y z. absurd (omega (arith, y)) }

    right_means : (xs : Syms) → SymsFits wd ts xs → (w : List ℕ) (at : ℕ) → Lies w at (syms_bytes wd ts xs) e
        → substitute_out wd w at e (number ts E) here below Assoc.Right ≡ store w at (syms_bytes wd ts (replace_occurrences_in E (right_name (occurs_in E xs)) xs 0))
    unfolding substitute_out
    right_means xs f w at l =
        let n = occurs_in E xs in
        let x = ends known (right_name n) low (Last n) (last-moves n) (last_meets n) xs f w at l (last-start n w at) in
        let z = x.3 in
        ap (λ (σ : State). name_out wd σ.0 (λ m. m.last) σ.1 here) x.2 ∙ last-named n x.1 _ (rw z at x.4)

    -- ---- all, where the name stays
    full_means : (xs : Syms) → SymsFits wd ts xs → (w : List ℕ) (at : ℕ) → Lies w at (syms_bytes wd ts xs) e
        → substitute_out wd w at e (number ts E) here below Assoc.FullyAssoc ≡ store w at (syms_bytes wd ts (replace_occurrences_in E (λ j. own) xs 0))
    unfolding substitute_out pick
    full_means xs f w at l = go (eqb here (number ts E)) refl
      where
        go : (b : Bool) → eqb here (number ts E) ≡ b
            → pick b w (replace_all wd (number ts E) here w at e).0 ≡ store w at (syms_bytes wd ts (replace_occurrences_in E (λ j. own) xs 0))
        go true z =
            let a : own ≡ E = same_as-eq own E (sym (number-tells ts E own known) ∙ z) in
            let c : replace_occurrences_in E (λ j. own) xs 0 ≡ xs = rw a (same_all E xs 0) in
            rw c (sym (store_same w at e (syms_bytes wd ts xs) l))
        go false z = all_means known own xs f w at l

    sides_mean : (side : Assoc) (xs : Syms) → SymsFits wd ts xs → (w : List ℕ) (at : ℕ) → Lies w at (syms_bytes wd ts xs) e
        → substitute_out wd w at e (number ts E) here below side ≡ store w at (syms_bytes wd ts (replace_occurrences_in E (ceiling (side_meant side) own low (occurs_in E xs)) xs 0))
    unfolding substitute_out
    sides_mean Assoc.Left xs f w at l = left_means xs f w at l
    sides_mean Assoc.Right xs f w at l = right_means xs f w at l
    sides_mean Assoc.NonAssoc xs f w at l = all_means known low xs f w at l
    sides_mean Assoc.FullyAssoc xs f w at l = full_means xs f w at l

-- theorem: work afterwards has the bytes of the symbols with their occurrences replaced as the side says
pub substitute-means : (wd : ℕ) (ts : List Text) (E own low : Text) (target here below : ℕ) → has E ts ≡ true → target ≡ number ts E → here ≡ number ts own → below ≡ number ts low
    → (side : Assoc) (xs : Syms) → SymsFits wd ts xs → (w : List ℕ) (at e : ℕ) → Lies w at (syms_bytes wd ts xs) e
    → substitute_out wd w at e target here below side ≡ store w at (syms_bytes wd ts (replace_occurrences_in E (ceiling (side_meant side) own low (occurs_in E xs)) xs 0))
substitute-means wd ts E own low target here below known p q r side xs f w at e l = cc (sides_mean wd ts E e known own low side xs f w at l)
