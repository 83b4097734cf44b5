-- Laws of the small functions that put an argument in: the ways out. Assumes nothing.
use mathlib.Core.Path.{◌≡◌, refl, sym, ap, ◌∙◌}
use mathlib.Core.Bool.{Bool, true, false}
use mathlib.Core.List.{List, ◌∷◌, ◌++◌}
use Prim.Native.Nat.{ℕ, suc, ◌+◌, ◌-◌, ◌*◌, ◌≤◌, ◌<◌, ◌^◌}
use native.Mathlib.Omega.{arith}
use borrow.Author.Rules.{rules}
use borrow.Author.Tests.{le-leb, lt-leb, ne_eqb}
use mir.Val.{Fits}
use mir.Syntax.{w64}
use lib.ListN.{length, get_or, length-append}
use Rattle.octets.specs.Working.Choice.{pick}
use Rattle.octets.specs.Working.Stores.{store}
use Rattle.octets.specs.Plain.Numbers.{le}
use Rattle.octets.specs.Plain.Runs.{part}
use Rattle.octets.proofs.NumbersLaws.{length-le}
use Rattle.octets.proofs.PartLaws.{part_length}
use Rattle.octets.proofs.StoreLaws.{store-append, length_store, get_d_store_before}
use Rattle.texts.proofs.TableStays.{part-agree}
use Rattle.parse_tree.specs.Working.Nodes.{long_of}
use Rattle.precedence.specs.Write.{Puts}
use Rattle.precedence.proofs.WriteLaws.{puts_whole, puts_not}
use Rattle.macro_expand.specs.PutIn.{wrapping, fits_at}

-- ---- put_spanned
module _ (w : List ℕ) (code span a e lim to : ℕ) (o : a ≤ e) (b : e ≤ to) (i : lim ≤ length w) where
  abbrev whole : List ℕ
  whole = code ∷ (le 8 span ++ part a e w)

  pub spanned_behind : lim < to → Puts w lim to (code ∷ (le 8 span ++ part a e w)) (lim + 1) w
  spanned_behind h = puts_not w lim to whole (omega arith)

  module _ (h : to ≤ lim) where
    spanned_long : 9 + (e - a) ≡ length whole
    spanned_long = omega (arith, length-append (le 8 span) (part a e w), length-le 8 span, part_length a e w (omega arith))

    pub spanned_over : lim - to < 9 + (e - a) → Puts w lim to (code ∷ (le 8 span ++ part a e w)) (lim + 1) w
    spanned_over k = puts_not w lim to whole (omega (arith, spanned_long))

    module _ (k : 9 + (e - a) ≤ lim - to) (w1 w2 : List ℕ) (x : w1 ≡ store w to (code ∷ le 8 span)) where
      pub spanned_room : length w1 ≡ length w → to + 9 + (e - a) ≤ length w1
      spanned_room z = omega arith

      kept : part a e w1 ≡ part a e w
      kept = ap (part a e) x ∙ part-agree w (store w to (code ∷ le 8 span)) a e (length_store w to (code ∷ le 8 span)) (omega arith) (λ j c d. get_d_store_before w to (code ∷ le 8 span) j (omega arith))

      pub spanned_done : w2 ≡ store w1 (to + 9) (part a e w1) → Puts w lim to (code ∷ (le 8 span ++ part a e w)) (to + (9 + (e - a))) w2
      spanned_done y = puts_whole w lim to whole w2 (9 + (e - a)) spanned_long (omega arith)
          (y ∙ ap (store w1 (to + 9)) kept ∙ ap (λ (s : List ℕ). store s (to + 9) (part a e w)) x ∙ store-append w to (to + 9) (code ∷ le 8 span) (part a e w) (omega (arith, length-le 8 span)))

pub ruleset spanning = (rules, spanned_behind, spanned_over, spanned_room, spanned_done)

-- ---- wraps
pub wraps_39 : (c : ℕ) → c ≡ 39 → true ≡ wrapping c
unfolding wrapping pick
wraps_39 c e = rw e refl

pub wraps_40 : (c : ℕ) → c ≡ 40 → true ≡ wrapping c
unfolding wrapping pick
wraps_40 c e = rw e refl

pub wraps_not : (c : ℕ) → (c ≡ 39 → ⊥) → (c ≡ 40 → ⊥) → false ≡ wrapping c
unfolding wrapping pick
wraps_not c e f = rw (ne_eqb c 39 e) (sym (ne_eqb c 40 f))

pub ruleset wrapped = (rules, wraps_39, wraps_40, wraps_not)

-- ---- fits: i levels are left at q
pub record Fitting (width e : ℕ) (w : List ℕ) (left p q i : ℕ) : Type 0 where
  pub narrow : 2 ≤ width
  pub wide : width ≤ 3
  pub room : e + 16 ≤ length w
  pub rest : fits_at width e w i q ≡ fits_at width e w left p

pub fit_start : (width e : ℕ) (w : List ℕ) (left p : ℕ) → 2 ≤ width → width ≤ 3 → e + 16 ≤ length w → Fitting width e w left p p left
fit_start width e w left p a b c = record { narrow = a; wide = b; room = c; rest = refl }

module _ (width e : ℕ) (w : List ℕ) (left p q i : ℕ) (l : Fitting width e w left p q i) where
  pub fit_done : i ≤ 0 → false ≡ fits_at width e w left p
  unfolding fits_at
  fit_done h = let z : i ≡ 0 = omega arith in sym (ap (λ (j : ℕ). fits_at width e w j q) z) ∙ l.rest

  module _ (h : 0 < i) where
    opened : fits_at width e w (suc (i - 1)) q ≡ fits_at width e w left p
    opened = let z : suc (i - 1) ≡ i = omega arith in ap (λ (j : ℕ). fits_at width e w j q) z ∙ l.rest

    pub fit_past : e ≤ q → true ≡ fits_at width e w left p
    unfolding fits_at pick
    fit_past k = cc (le-leb e q k, opened)

    module _ (k : q < e) where
      pub fit_here : q < length w
      fit_here = omega (arith, l.room)

      pub fit_room : (n : ℕ) → n ≤ 17 → length w * 1 < 2 ^ 63 → Fits w64 (q + n)
      fit_room n m x = record { fits = omega (arith, l.room) }

      module _ (b : Bool) (z : b ≡ wrapping (get_or w q 0)) where
        pub fit_other : b ≡ false → true ≡ fits_at width e w left p
        unfolding fits_at pick
        fit_other y = cc (lt-leb e q k, opened)

        pub fit_next : b ≡ true → (n : ℕ) → n ≡ long_of width (get_or w q 0) → Fitting width e w left p (q + n) (i - 1)
        unfolding fits_at pick
        fit_next y n j = record { narrow = l.narrow; wide = l.wide; room = l.room; rest = cc (lt-leb e q k, opened) }

pub ruleset fitting = (rules, fit_start, fit_done, fit_past, fit_here, fit_room, fit_other, fit_next)
