-- The ways out of put_arrow, put_action and put_tail. Assumes nothing.
use mathlib.Core.Path.{◌≡◌, refl, ap, ◌∙◌}
use mathlib.Core.List.{List, [], ◌∷◌, ◌++◌}
use Prim.Native.Nat.{ℕ, ◌+◌}
use native.Mathlib.Omega.{arith}
use borrow.Author.Rules.{rules}
use borrow.Author.Tests.{ne_eqb, le-ltb}
use lib.ListN.{length, get_or}
use Rattle.octets.specs.Working.Choice.{pick}
use Rattle.parse_tree.specs.Plain.Tree.{Text}
use Rattle.texts.specs.declared.Map.{Map}
use Rattle.texts.specs.Table.{texts}
use Rattle.display.specs.Follow.{word_at}
use Rattle.precedence.specs.Write.{Puts}
use Rattle.precedence.proofs.WriteLaws.{puts_none}
use Rattle.settling.specs.declared.Source.{Source}
use Rattle.settling.specs.Put.{source_text, Fixed, PlacedText}
use Rattle.settling.specs.Print.{Printable}
use Rattle.settling.proofs.PutLaws.{then, puts_as}
use Rattle.settling.proofs.WordsLaws.{fixed_same, source_next}
use Rattle.listing.specs.Tree.{arrow_text, side_text, action_by, action_at}

-- ---- put_arrow
module _ (s w : List ℕ) (m : Map) (wd at lim to : ℕ) (g : Printable s w m wd lim to) (p : Source) (d : PlacedText s w m (word_at wd (texts s w m) w at) p) (t : Text) (q : ℕ) (w1 : List ℕ) (u : Puts w lim to t q w1) where
  pub text_later : Fixed (length w1) lim p
  text_later = fixed_same (length w) lim p (length w1) (d.fixed lim g.above) u.long

  pub arrow_put : (r : ℕ) (w2 : List ℕ) → Puts w1 lim q (source_text w1 p) r w2 → Puts w lim to (t ++ word_at wd (texts s w m) w at) r w2
  arrow_put r w2 v = then u (puts_as (source_next w lim p (d.fixed lim g.above) to t q w1 u ∙ d.text) v)

pub ruleset arrowing = (rules, text_later, arrow_put)

-- ---- put_action: the code is c, x is its text
module _ (c : ℕ) (x : Text) where
  by_user : c ≡ 1 → (32 ∷ 61 ∷ 62 ∷ 32 ∷ []) ++ x ≡ action_by c x
  unfolding action_by arrow_text pick
  by_user e = rw e refl

  by_fallible : c ≡ 2 → (32 ∷ 61 ∷ 62 ∷ 63 ∷ 32 ∷ []) ++ x ≡ action_by c x
  unfolding action_by arrow_text pick
  by_fallible e = rw e refl

  by_left : c ≡ 3 → (32 ∷ 61 ∷ 62 ∷ 32 ∷ 64 ∷ 76 ∷ []) ≡ action_by c x
  unfolding action_by side_text pick
  by_left e = rw e refl

  by_right : (c ≡ 0 → ⊥) → (c ≡ 1 → ⊥) → (c ≡ 2 → ⊥) → (c ≡ 3 → ⊥) → (32 ∷ 61 ∷ 62 ∷ 32 ∷ 64 ∷ 82 ∷ []) ≡ action_by c x
  unfolding action_by side_text pick
  by_right n0 n1 n2 n3 = rw (ne_eqb c 0 n0, le-ltb c 3 (omega (arith, n0, n1, n2)), ne_eqb c 3 n3) refl

module _ (s w : List ℕ) (m : Map) (wd at lim to c : ℕ) (e : c ≡ get_or w (at + 11) 0) where
  abbrev x : Text
  x = word_at wd (texts s w m) w (at + 12)

  is : action_by c x ≡ action_at wd (texts s w m) w at
  unfolding action_at
  is = ap (λ (k : ℕ). action_by k x) e

  pub action_none : Printable s w m wd lim to → c ≡ 0 → Puts w lim to (action_at wd (texts s w m) w at) to w
  unfolding action_by pick
  action_none g z = puts_as ((rw z refl) ∙ is) (puts_none w lim to g.stop)

  module _ (r : ℕ) (w1 : List ℕ) where
    pub action_user : c ≡ 1 → Puts w lim to ((32 ∷ 61 ∷ 62 ∷ 32 ∷ []) ++ x) r w1 → Puts w lim to (action_at wd (texts s w m) w at) r w1
    action_user z u = puts_as (by_user c x z ∙ is) u

    pub action_fallible : c ≡ 2 → Puts w lim to ((32 ∷ 61 ∷ 62 ∷ 63 ∷ 32 ∷ []) ++ x) r w1 → Puts w lim to (action_at wd (texts s w m) w at) r w1
    action_fallible z u = puts_as (by_fallible c x z ∙ is) u

    pub action_left : c ≡ 3 → Puts w lim to (32 ∷ 61 ∷ 62 ∷ 32 ∷ 64 ∷ 76 ∷ []) r w1 → Puts w lim to (action_at wd (texts s w m) w at) r w1
    action_left z u = puts_as (by_left c x z ∙ is) u

    pub action_right : (c ≡ 0 → ⊥) × (c ≡ 1 → ⊥) × (c ≡ 2 → ⊥) × (c ≡ 3 → ⊥) → Puts w lim to (32 ∷ 61 ∷ 62 ∷ 32 ∷ 64 ∷ 82 ∷ []) r w1 → Puts w lim to (action_at wd (texts s w m) w at) r w1
    action_right (n0, n1, n2, n3) u = puts_as (by_right c x n0 n1 n2 n3 ∙ is) u

pub ruleset acting = (rules, action_none, action_user, action_fallible, action_left)

-- ---- put_tail
pub tail_put : (w w1 w2 : List ℕ) (xs : List ℕ) (lim to q r : ℕ) → Puts w lim to xs q w1 → Puts w1 lim q (10 ∷ []) r w2 → Puts w lim to (xs ++ (10 ∷ [])) r w2
tail_put w w1 w2 xs lim to q r p u = then p u

pub ruleset tailing = (rules, tail_put)
