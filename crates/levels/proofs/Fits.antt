-- A levelled tree keeps within counts and nesting: a level that falls through leaves room for it, as another has alternatives. Assumes nothing.
use mathlib.Core.Path.{◌≡◌, refl, ap}
use mathlib.Core.Bool.{Bool, true, false, cond, ◌&&◌}
use mathlib.Core.List.{List, [], ◌∷◌, ◌++◌, map}
use mathlib.Core.Option.{Option, none, some}
use Prim.Native.Nat.{ℕ, zero, suc, ◌+◌, ◌<◌, ◌≤◌}
use native.Mathlib.Omega.{arith}
use borrow.Author.Tests.{lt-ltb, le-leb}
use lib.Dec.{leb, ltb}
use lib.ListN.{length, length-append, length-map}
use Rattle.parse_tree.specs.Plain.Tree.{Text, Over, Sym, Syms, macro, group, leaf, around, over, nil, cons, count, Nonterminal, Item, item}
use Rattle.parse_tree.specs.Working.Within.{Each, OverWithin, SymWithin, SymsWithin, NonterminalWithin, ItemWithin}
use Rattle.parse_tree.specs.declared.syntax.Span.{Span}
use Rattle.parse_tree.proofs.TextLaws.{both, and_both}
use Rattle.passes.specs.Grades.{Graded, annotated, graded, ceiling}
use Rattle.passes.specs.Levels.{levels_of, of_level, Group, level_name, groups_of, lower_name, occurs, occurs_in, replace_occurrences, replace_occurrences_in, substitute, substituted, fall_through, with_fall_through, level_items, levelled}
use Rattle.passes.specs.Sizes.{each, over_fits, sym_fits, syms_fit, alternative_fits, item_fits}
use Rattle.passes.proofs.ResolveKeeps.{item_fits_lem}
use Rattle.levels.proofs.Graded.{GradedWithin, of_level_each, graded-within}
use Rattle.laws.proofs.LevelsMany.{graded-length, levels-full}
use Rattle.levels.proofs.Few.{total, levels-total}

-- ---- tests of each
fits_append : {A : Type 0} (f : A → Bool) (xs ys : List A) → each f xs ≡ true → each f ys ≡ true → each f (xs ++ ys) ≡ true
fits_append f [] ys h k = k
fits_append f (x ∷ xs) ys h k = let b = both (f x) (each f xs) h in and_both (f x) (each f (xs ++ ys)) b.0 (fits_append f xs ys b.1 k)

-- ---- symbols keep their count and nesting
module _ (E : Text) (f : ℕ → Text) where
  replaced_count : (xs : Syms) (i : ℕ) → count (replace_occurrences_in E f xs i) ≡ count xs
  unfolding replace_occurrences_in count
  replaced_count nil i = refl
  replaced_count (cons x xs) i = ap suc (replaced_count xs (i + occurs E x))

  module _ (four : Bool) (wd : ℕ) (ts : List Text) where
    over_fits_lem : (o : Over) (k : ℕ) → OverWithin four wd ts o k → over_fits o k ≡ true
    over_fits_lem (macro n) k h = and_both (leb 1 k) (ltb k 256) (le-leb 1 k h.1) (lt-ltb k 256 h.2)
    over_fits_lem group k h = lt-ltb k 65536 h

    mutual
      unfolding replace_occurrences replace_occurrences_in

      sym_fits_lem : (x : Sym) (i more : ℕ) → SymWithin four wd ts x more → sym_fits (replace_occurrences E f x i) more ≡ true
      sym_fits_lem (leaf s l) i zero h = absurd h
      sym_fits_lem (leaf s l) i (suc more) h = refl
      sym_fits_lem (around s a x) i zero h = absurd h
      sym_fits_lem (around s a x) i (suc more) h = sym_fits_lem x i more h.2
      sym_fits_lem (over s o xs) i zero h = absurd h
      sym_fits_lem (over s o xs) i (suc more) h =
          let n = replaced_count xs i in
          and_both (over_fits o (count (replace_occurrences_in E f xs i))) (syms_fit (replace_occurrences_in E f xs i) more) (rw n (over_fits_lem o (count xs) h.1)) (syms_fit_lem xs i more h.2)

      syms_fit_lem : (xs : Syms) (i more : ℕ) → SymsWithin four wd ts xs more → syms_fit (replace_occurrences_in E f xs i) more ≡ true
      syms_fit_lem nil i more h = refl
      syms_fit_lem (cons x xs) i more h =
          and_both (sym_fits (replace_occurrences E f x i) more) (syms_fit (replace_occurrences_in E f xs (i + occurs E x)) more) (sym_fits_lem x i more h.0) (syms_fit_lem xs (i + occurs E x) more h.1)

-- ---- a level
fall_fits : (s : Span) (o : Option Text) → each alternative_fits (fall_through s o) ≡ true
unfolding count
fall_fits s none = refl
fall_fits s (some n) = refl

-- one where there is a lower level
abbrev pub falls : Option Text → ℕ
falls none = 0
falls (some n) = 1

fall_length : (s : Span) (o : Option Text) → length (fall_through s o) ≡ falls o
fall_length s none = refl
fall_length s (some n) = refl

module _ (four : Bool) (wd : ℕ) (ts : List Text) where
  substitute-fits : (E : Text) (level : Group Graded) (g : Graded) → GradedWithin four wd ts g → alternative_fits (substitute E level g) ≡ true
  substitute-fits E level g h =
      let xs = g.alternative.symbols in
      let f = ceiling g.side level.name (lower_name level) (occurs_in E xs) in
      let ys = replace_occurrences_in E f xs 0 in
      let n : count ys ≡ count xs = replaced_count E f xs 0 in
      and_both (ltb (length g.alternative.attributes) 256) (ltb (count ys) 65536 && syms_fit ys 64) (lt-ltb (length g.alternative.attributes) 256 h.few)
      (and_both (ltb (count ys) 65536) (syms_fit ys 64) (lt-ltb (count ys) 65536 (omega (arith, n, h.fewer))) (syms_fit_lem E f four wd ts xs 0 64 h.symbols))

  all_substitute_fit : (E : Text) (level : Group Graded) (gs : List Graded) → Each (GradedWithin four wd ts) gs → each alternative_fits (map (substitute E level) gs) ≡ true
  all_substitute_fit E level [] h = refl
  all_substitute_fit E level (g ∷ gs) h =
      and_both (alternative_fits (substitute E level g)) (each alternative_fits (map (substitute E level) gs)) (substitute-fits E level g h.0) (all_substitute_fit E level gs h.1)

  -- theorem: the item of a level, with room for its fall-through
  pub level_fits : (d : Nonterminal) (level : Group Graded) → NonterminalWithin four wd ts d → Each (GradedWithin four wd ts) level.alternatives → length level.alternatives + falls level.lower ≤ length d.alternatives
      → item_fits (with_fall_through d (substituted d.name level)) ≡ true
  unfolding with_fall_through substituted
  level_fits d level h gs n =
      let As = map (substitute d.name level) level.alternatives in
      let Fs = fall_through d.span level.lower in
      let m : length (As ++ Fs) < 65536 = omega (arith, h.fewer, length-append As Fs, length-map level.alternatives (substitute d.name level), fall_length d.span level.lower) in
      and_both (ltb (length d.args) 256) (ltb (length (As ++ Fs)) 65536 && each alternative_fits (As ++ Fs)) (lt-ltb (length d.args) 256 h.few)
      (and_both (ltb (length (As ++ Fs)) 65536) (each alternative_fits (As ++ Fs)) (lt-ltb (length (As ++ Fs)) 65536 m)
      (fits_append alternative_fits As Fs (all_substitute_fit d.name level level.alternatives gs) (fall_fits d.span level.lower)))

  levels-fit : (d : Nonterminal) (gs : List Graded) (lower : Option Text) (vs : List ℕ) → NonterminalWithin four wd ts d → Each (GradedWithin four wd ts) gs → Each (λ (v : ℕ). 1 ≤ length (of_level v gs)) vs → falls lower + total vs gs ≤ length d.alternatives
      → each item_fits (map (with_fall_through d) (map (substituted d.name) (groups_of d.name gs lower vs))) ≡ true
  unfolding groups_of total
  levels-fit d gs lower [] h k full n = refl
  levels-fit d gs lower (v ∷ vs) h k full n =
      let t = level_name d.name v vs in
      let level : Group Graded = record { name = t; lower = lower; alternatives = of_level v gs } in
      let more = map (with_fall_through d) (map (substituted d.name) (groups_of d.name gs (some t) vs)) in
      and_both (item_fits (with_fall_through d (substituted d.name level))) (each item_fits more)
      (level_fits d level h (of_level_each (GradedWithin four wd ts) v gs k) (omega arith))
      (levels-fit d gs (some t) vs h k full.1 (omega (arith, full.0)))

  -- theorem: the items of a nonterminal's levels fit
  pub group_fits : (d : Nonterminal) → NonterminalWithin four wd ts d → each item_fits (level_items d) ≡ true
  unfolding level_items
  group_fits d h = levels-fit d (graded d) none (levels_of (graded d)) h (graded-within four wd ts d h) (levels-full (graded d)) (omega (arith, levels-total (graded d), graded-length d))

  one_fits : (d : Nonterminal) (b : Bool) → NonterminalWithin four wd ts d → each item_fits (cond b (level_items d) (item d ∷ [])) ≡ true
  one_fits d true h = group_fits d h
  one_fits d false h = and_both (item_fits (item d)) true (item_fits_lem four wd ts (item d) h) refl

  -- theorem: a levelled tree fits
  pub levelled-fits : (R : List Item) → Each (ItemWithin four wd ts) R → each item_fits (levelled R) ≡ true
  unfolding levelled
  levelled-fits [] h = refl
  levelled-fits (item d ∷ rest) h = fits_append item_fits (cond (annotated d) (level_items d) (item d ∷ [])) (levelled rest) (one_fits d (annotated d) h.0) (levelled-fits rest h.1)
  levelled-fits (Item.terminal s o t ∷ rest) h = levelled-fits rest h.1
