-- Alternatives whose texts are all known have the same bytes by more texts; and those that hold, one behind another. Assumes nothing.
use mathlib.Core.Path.{◌≡◌, refl, sym, ap}
use mathlib.Core.Bool.{Bool, true, false, cond, ◌&&◌}
use mathlib.Core.List.{List, [], ◌∷◌, ◌++◌, append-nil}
use Prim.Native.Nat.{ℕ}
use Rattle.parse_tree.specs.Plain.Tree.{Text, Syms, Alternative}
use Rattle.parse_tree.specs.Plain.Texts.{with_new}
use Rattle.parse_tree.specs.Plain.References.{texts_of_each, alternative_texts}
use Rattle.parse_tree.specs.Plain.WriteTape.{bytes_of_each}
use Rattle.parse_tree.specs.Working.Encode.{alternative_bytes}
use Rattle.parse_tree.specs.declared.syntax.Span.{Span}
use Rattle.passes.specs.Sizes.{each, alternative_fits}
use Rattle.passes.specs.Outcome.{Outcome, yes, no}
use Rattle.passes.specs.Macros.{evaluate_cond, expand_alternative}
use Rattle.replacing.proofs.ThereBytes.{bytes_known, alternative_known}
use Rattle.expander.specs.declared.Ground.{Ground}
use Rattle.appending.specs.declared.Appended.{Appended}
use Rattle.appending.specs.Pieces.{plainly, then_piece, Steady, Appending, Appends}
use Rattle.appending.proofs.PiecesLaws.{appends-none, appends_then, appends_is}
use Rattle.expander.specs.Names.{named_in}
use Rattle.macro_expand.specs.Alternatives.{alternative_piece, alternatives_piece, held}

pub steady_alternatives : (wd : ℕ) (xs : List Alternative) → Steady (alternatives_piece wd xs)
steady_alternatives wd xs = record {
  same = λ ts us h. bytes_known ts alternative_texts (alternative_bytes wd (ts ++ us)) (alternative_bytes wd ts) (λ a i. alternative_known wd ts (ts ++ us) (record { more = us; is = refl }) a i) xs h;
}

and-true : (b : Bool) → (b && true) ≡ b
and-true true = refl
and-true false = refl

module _ (s : List ℕ) (g : Ground) (n lim : ℕ) (ps : List ℕ) where
  -- nothing
  pub yields_none : (w : List ℕ) (v : Appended) → Appending s g n lim ps w v → Appends s g n lim ps w v (alternatives_piece g.width.bytes []) v w
  unfolding texts_of_each bytes_of_each
  yields_none w v A = appends_is s g n lim ps w v (plainly []) v w (appends-none s g n lim ps w v A) (alternatives_piece g.width.bytes []) refl refl refl

  -- one
  pub yields_one : (w : List ℕ) (v : Appended) (a : Alternative) (v' : Appended) (w' : List ℕ) → Appends s g n lim ps w v (alternative_piece g.width.bytes a) v' w' → Appends s g n lim ps w v (alternatives_piece g.width.bytes (a ∷ [])) v' w'
  unfolding texts_of_each bytes_of_each
  yields_one w v a v' w' A =
      appends_is s g n lim ps w v (alternative_piece g.width.bytes a) v' w' A (alternatives_piece g.width.bytes (a ∷ []))
      (ap (with_new (named_in s w g v.count)) (append-nil (alternative_texts a))) (append-nil (alternative_bytes g.width.bytes (named_in s w' g v'.count) a)) (and-true _)

  -- the first, then the others
  pub held_then : (sp : Span) (names : List Text) (args : Syms) (a : Alternative) (rest : List Alternative) (w : List ℕ) (v v1 : Appended) (w1 : List ℕ) (v2 : Appended) (w2 : List ℕ) → Appending s g n lim ps w v
      → Appends s g n lim ps w v (alternatives_piece g.width.bytes (held sp names args (a ∷ []))) v1 w1 → Appends s g n lim ps w1 v1 (alternatives_piece g.width.bytes (held sp names args rest)) v2 w2
      → Appends s g n lim ps w v (alternatives_piece g.width.bytes (held sp names args (a ∷ rest))) v2 w2
  unfolding held texts_of_each bytes_of_each
  held_then sp names args a rest w v v1 w1 v2 w2 H A B = go (evaluate_cond names args a.condition) (held sp names args rest) A B
    where
      none_first : (ys : List Alternative) → Appends s g n lim ps w v (alternatives_piece g.width.bytes []) v1 w1 → Appends s g n lim ps w1 v1 (alternatives_piece g.width.bytes ys) v2 w2 → Appends s g n lim ps w v (alternatives_piece g.width.bytes ys) v2 w2
      none_first ys P Q =
          let x1 = alternatives_piece g.width.bytes [] in
          let x2 = alternatives_piece g.width.bytes ys in
          appends_is s g n lim ps w v (then_piece x1 x2) v2 w2 (appends_then s g n lim ps w v x1 v1 w1 x2 v2 w2 (steady_alternatives g.width.bytes []) H P Q) (alternatives_piece g.width.bytes ys) refl refl refl

      go : (x : Outcome Bool) (ys : List Alternative)
          → Appends s g n lim ps w v (alternatives_piece g.width.bytes (elim x [ yes b ↦ cond b (expand_alternative sp names args a ∷ []) [] | no k q ↦ [] ])) v1 w1
          → Appends s g n lim ps w1 v1 (alternatives_piece g.width.bytes ys) v2 w2
          → Appends s g n lim ps w v (alternatives_piece g.width.bytes (elim x [ yes b ↦ cond b (expand_alternative sp names args a ∷ ys) ys | no k q ↦ ys ])) v2 w2
      go (no k q) ys P Q = none_first ys P Q
      go (yes true) ys P Q =
          let x1 = alternatives_piece g.width.bytes (expand_alternative sp names args a ∷ []) in
          let x2 = alternatives_piece g.width.bytes ys in
          appends_is s g n lim ps w v (then_piece x1 x2) v2 w2 (appends_then s g n lim ps w v x1 v1 w1 x2 v2 w2 (steady_alternatives g.width.bytes (expand_alternative sp names args a ∷ [])) H P Q)
          (alternatives_piece g.width.bytes (expand_alternative sp names args a ∷ ys))
          (ap (λ (l : List Text). with_new (named_in s w g v.count) (l ++ texts_of_each alternative_texts ys)) (sym (append-nil (alternative_texts (expand_alternative sp names args a)))))
          (ap (λ (l : List ℕ). l ++ bytes_of_each (alternative_bytes g.width.bytes (named_in s w2 g v2.count)) ys) (sym (append-nil (alternative_bytes g.width.bytes (named_in s w2 g v2.count) (expand_alternative sp names args a)))))
          (ap (λ (f : Bool). f && each alternative_fits ys) (sym (and-true (alternative_fits (expand_alternative sp names args a)))))
      go (yes false) ys P Q = none_first ys P Q
