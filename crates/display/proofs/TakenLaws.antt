-- Bytes taken one run behind another. Assumes nothing.
use mathlib.Core.Path.{◌≡◌, refl, sym, ap, ◌∙◌}
use mathlib.Core.List.{List, [], ◌∷◌, ◌++◌}
use Prim.Native.Nat.{ℕ}
use Rattle.display.specs.Sink.{all_of, Taken}

-- theorem: one run behind another
pub all_append : {A : Type 0} (more : A → ℕ → A) (s : A) (xs ys : List ℕ) → all_of more s (xs ++ ys) ≡ all_of more (all_of more s xs) ys
unfolding all_of
all_append more s [] ys = refl
all_append more s (x ∷ xs) ys = all_append more (more s x) xs ys

module _ {A : Type 0} {more : A → ℕ → A} where
  pub taken_none : {s : A} → Taken more s [] s
  unfolding all_of
  taken_none {s} = record { is = refl }

  pub taken_then : {s t r : A} {xs ys : List ℕ} → Taken more s xs t → Taken more t ys r → Taken more s (xs ++ ys) r
  taken_then {s} {t} {r} {xs} {ys} a b = record { is = b.is ∙ ap (λ (x : A). all_of more x ys) a.is ∙ sym (all_append more s xs ys) }

  pub taken_as : {s r : A} {xs ys : List ℕ} → xs ≡ ys → Taken more s xs r → Taken more s ys r
  taken_as e a = rw e at a
