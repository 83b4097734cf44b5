-- `behind` and `front`. Assumes nothing.
use mathlib.Core.Path.{◌≡◌, refl, sym, ap, ◌∙◌}
use mathlib.Core.Bool.{Bool, true, false}
use mathlib.Core.List.{List}
use Prim.Native.Nat.{ℕ, zero, suc, ◌+◌, ◌*◌, ◌-◌, ◌^◌, ◌<◌, ◌≤◌}
use native.Mathlib.Omega.{arith}
use native.Mathlib.Numerals.{add-one}
use borrow.Author.Rules.{rules}
use borrow.Author.Tests.{eq-eqb, ne_eqb, ltb-true, ltb-false}
use lib.Dec.{eqb, ltb}
use lib.ListN.{length, get_or}
use mir.Syntax.{w64}
use mir.Val.{Fits}
use Rattle.octets.specs.Working.Choice.{pick}
use Rattle.octets.specs.Plain.Numbers.{le_at}
use Rattle.octets.proofs.ChoiceLaws.{by_pick}
use Rattle.texts.specs.Atoms.{atom_end, place_of}
use Rattle.std.specs.Prelude.{Option, Some, None, option_map}
use Rattle.parse_tree.specs.Working.Nodes.{text_node, if_whole}
use Rattle.parse_tree.specs.declared.syntax.Node.{Node}
use Rattle.validate.specs.Front.{next_at, AtomEnds, Counted}

some_not : {A : Type 0} {x : A} → ◌≡◌ {A = Option A} (Some x) None → ⊥
some_not {A} {x} e = let z : ◌≡◌ {A = ℕ} 0 1 = cc in omega arith

module _ (s : List ℕ) (at : ℕ) where
  pub behind_end : length s ≤ at → AtomEnds s at None
  unfolding AtomEnds
  behind_end h = λ l. absurd (omega arith)

  pub behind_code : (get_or s at 0 ≡ 1 → ⊥) → AtomEnds s at None
  unfolding AtomEnds next_at pick
  behind_code n = λ _. cc (ne_eqb (get_or s at 0) 1 n)

  -- r is what `text_size` answered
  module _ (o : get_or s at 0 ≡ 1) (l : at < length s) (r : Option ℕ) (e : option_map Node.Text r ≡ text_node s at) where
    abbrev Ends : Option ℕ → Type 0
    Ends x = AtomEnds s at (option_map (λ n. at + 3 + n) x)

    behind_is : Ends r
    unfolding AtomEnds next_at text_node if_whole pick atom_end
    behind_is = go (ltb (length s - at) 3) (ltb (length s - at) (3 + le_at 2 s (at + 1))) refl refl r e
      where
        go : (b d : Bool) → ltb (length s - at) 3 ≡ b → ltb (length s - at) (3 + le_at 2 s (at + 1)) ≡ d → (r : Option ℕ)
            → option_map Node.Text r ≡ pick b None (pick d None (Some (Node.Text (le_at 2 s (at + 1))))) → Ends r
        go true d p q None e = λ _. cc (eq-eqb (get_or s at 0) 1 o, p)
        go true d p q (Some n) e = absurd (some_not e)
        go false true p q None e = λ _. cc (eq-eqb (get_or s at 0) 1 o, p, q)
        go false true p q (Some n) e = absurd (some_not e)
        go false false p q None e = absurd (some_not (sym e))
        go false false p q (Some n) e =
            let k : n ≡ le_at 2 s (at + 1) = cc in
            let z : at + 3 + n ≡ next_at s at = cc (eq-eqb (get_or s at 0) 1 o, p, q) in
            (l, z, omega arith)

    pub behind_none : r ≡ None → AtomEnds s at None
    behind_none z = rw z at behind_is

    pub behind_whole : (n : ℕ) → r ≡ Some n → (m : ℕ) → m ≡ n → AtomEnds s at (Some (at + 3 + m))
    behind_whole n z m i = rw i (rw z at behind_is)

pub ruleset behinding = (rules, behind_end, behind_code, behind_none, behind_whole)

abbrev Moves : List ℕ → ℕ → ℕ → Type 0
Moves s at r = at < r → (r ≡ atom_end s at) × (atom_end s at ≤ length s)

pub next_is : (s : List ℕ) (at : ℕ) → at < length s → Moves s at (next_at s at)
unfolding next_at atom_end
next_is s at l =
    by_pick (Moves s at) (eqb (get_or s at 0) 1)
    (λ _. by_pick (Moves s at) (ltb (length s - at) 3) (λ _ h. absurd (omega arith))
    (λ e. by_pick (Moves s at) (ltb (length s - at) (3 + le_at 2 s (at + 1))) (λ _ h. absurd (omega arith))
    (λ f h. (refl, omega (arith, ltb-false (length s - at) 3 e, ltb-false (length s - at) (3 + le_at 2 s (at + 1)) f)))))
    (λ _ h. absurd (omega arith))

pub place_three : (s : List ℕ) (k : ℕ) → 3 * k ≤ place_of s k
unfolding place_of atom_end
place_three s zero = omega arith
place_three s (suc k) = omega (arith, place_three s k)

-- ---- the loop
pub record Counting (s : List ℕ) (at k : ℕ) : Type 0 where
  pub here : at ≡ place_of s k
  pub inside : at ≤ length s
  pub each : (i : ℕ) → i < k → next_at s (place_of s i) ≡ place_of s (suc i)

pub count-start : (s : List ℕ) → Counting s 0 0
unfolding place_of
count-start s = record { here = refl; inside = omega arith; each = λ i h. absurd (omega arith) }

-- r is what `behind` answered
module _ (s : List ℕ) (at k : ℕ) (g : Counting s at k) (r : Option ℕ) (b : AtomEnds s at r) where
  module _ (e : ℕ) (q : r ≡ Some e) where
    moves : (at < length s) × (e ≡ next_at s at) × (at < e)
    unfolding AtomEnds
    moves = rw q at b

    pub count_fits : length s < 2 ^ 64 → Fits w64 (k + 1)
    count_fits l = record { fits = omega (arith, g.here, place_three s k, moves.0) }

    pub count_less : length s - e < length s - at
    count_less = omega (arith, moves.0, moves.2)

    pub count_next : Counting s e (k + 1)
    unfolding place_of
    count_next =
        let l = moves.0 in
        let h = moves.2 in
        let p = moves.1 in
        let n = next_is s at l (rw p at h) in
        record { here = rw (add-one k) (p ∙ n.0 ∙ ap (atom_end s) g.here); inside = omega (arith, p, n.0, n.1); each = λ i m. go l p h i (ltb i k) refl m }
      where
        go : at < length s → e ≡ next_at s at → at < e → (i : ℕ) (c : Bool) → ltb i k ≡ c → i < k + 1 → next_at s (place_of s i) ≡ place_of s (suc i)
        go l p h i true u n = g.each i (ltb-true i k u)
        go l p h i false u n =
            let z : i ≡ k = omega (arith, ltb-false i k u) in
            let y : place_of s i ≡ at = ap (place_of s) z ∙ sym g.here in
            ap (next_at s) y ∙ (next_is s at l (rw p at h)).0 ∙ ap (atom_end s) (sym y)

  pub count-done : r ≡ None → Counted s at k
  unfolding AtomEnds
  count-done q = record { here = g.here; inside = g.inside; each = g.each; stop = rw q at b }

pub ruleset counting = (rules, count-start, count_fits, count_less, count_next, count-done)
