-- What has references once places were noted: all of them, between the bounds that they keep, and off those that were not. Assumes nothing.
use mathlib.Core.Path.{◌≡◌, refl, sym, subst}
use mathlib.Core.Bool.{Bool}
use mathlib.Core.Logic.{◌⊎◌, inl, inr}
use mathlib.Core.List.{List, [], ◌∷◌, ◌++◌}
use mathlib.Core.Option.{Option}
use Prim.Native.Nat.{ℕ, ◌+◌, ◌≤◌}
use native.Mathlib.Omega.{arith}
use Rattle.parse_tree.specs.Working.Within.{Each}
use Rattle.parse_tree.proofs.ReadingLaws.{each_map}
use Rattle.replacing.specs.Slots.{Slots, note, note_all}
use Rattle.replacing.specs.Sound.{HasRef}
use Rattle.replacing.proofs.Closing.{note_from, note_here, notes_stay}
use Rattle.expander.specs.Held.{Off, AllBefore}
use Rattle.expander.proofs.KeysLaws.{Spread}

-- the laws of noting stand among others on bytes, and say nothing of them: hence 0 and []
module _ (same : ℕ → ℕ → Bool) (text_in : ℕ → Option ℕ) where
  -- what holds of all that have references and of all that are noted
  notes_hold : (P : ℕ → Type 0) (ps : List ℕ) (x : Slots) → Each P ps → ((q : ℕ) → HasRef q x → P q) → (q : ℕ) → HasRef q (note_all same text_in ps x) → P q
  unfolding note_all
  notes_hold P [] x a f q h = f q h
  notes_hold P (p ∷ ps) x a f q h = notes_hold P ps (note same text_in p x) a.1 (λ r i. go r (note_from 0 [] same text_in p r x i)) q h
    where
      go : (r : ℕ) → (HasRef r x) ⊎ (r ≡ p) → P r
      go r (inl i) = f r i
      go r (inr e) = subst P (sym e) a.0

  -- theorem: all that were noted have references
  pub notes_have : (ps : List ℕ) (x : Slots) → Each (λ q. HasRef q (note_all same text_in ps x)) ps
  unfolding note_all
  notes_have [] x = tt
  notes_have (p ∷ ps) x = (notes_stay 0 [] same text_in ps p (note same text_in p x) (note_here 0 [] same text_in p x), notes_have ps (note same text_in p x))

  pub notes_append : (ps qs : List ℕ) (x : Slots) → note_all same text_in (ps ++ qs) x ≡ note_all same text_in qs (note_all same text_in ps x)
  unfolding note_all
  notes_append [] qs x = refl
  notes_append (p ∷ ps) qs x = notes_append ps qs (note same text_in p x)

  -- theorem: all stay before the end of what was noted
  pub notes_before : (p e : ℕ) (ps : List ℕ) (x : Slots) → p ≤ e → Spread p e ps → AllBefore p x → AllBefore e (note_all same text_in ps x)
  notes_before p e ps x l a b = notes_hold (λ q. q + 9 ≤ e) ps x (each_map (λ q z. z.1) ps a) (λ q h. let i = b q h in omega arith)

  -- theorem: and off a place before which all were, and behind which what was noted is
  pub notes_off : (p d e : ℕ) (ps : List ℕ) (x : Slots) → p + 9 ≤ d → Spread d e ps → AllBefore p x → Off p (note_all same text_in ps x)
  notes_off p d e ps x l a b = notes_hold (λ q. (q + 9 ≤ p) ⊎ (p + 9 ≤ q)) ps x (each_map (λ q z. inr (omega (arith, z.0))) ps a) (λ q h. inl (b q h))
