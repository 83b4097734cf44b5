-- Numbers in decimal: the answer of number_size, and the loop of put_digits. Assumes nothing.
use mathlib.Core.Path.{◌≡◌, refl, sym, ap, ◌∙◌}
use mathlib.Core.List.{List, [], ◌∷◌}
use Prim.Native.Nat.{ℕ, zero, suc, ◌+◌, ◌-◌, ◌*◌, ◌/◌, ◌%◌, ◌^◌, ◌≤◌, ◌<◌}
use native.Mathlib.Omega.{arith}
use borrow.Author.Rules.{rules}
use lib.ListN.{length, set}
use lib.Seq.{sets, set_comm}
use Rattle.std.specs.Prelude.{Option, Some, None, IfNone, IfSome, MatchOption}
use Rattle.octets.specs.Working.Stores.{store}
use Rattle.octets.proofs.StoreLaws.{store-none, length_store}
use Rattle.passes.specs.Levels.{number_digits}
use Rattle.grades.proofs.DecimalLaws.{last, size_by, front, number-front, number_long, size_one, size_more}

-- ---- number_size
size_power : (j k q : ℕ) → k ≤ j → 10 ^ k ≤ q → q < 10 * 10 ^ k → size_by (suc j) q ≡ k + 1
size_power j zero q l h m = size_one j q (omega arith)
size_power zero (suc k) q l h m = absurd (omega arith)
size_power (suc j) (suc k) q l h m = size_more (suc j) q (omega arith) ∙ ap suc (size_power j k (q / 10) (omega arith) (omega arith) (omega arith)) ∙ omega arith

module _ (v : ℕ) where
  abbrev Size : ℕ → Type 0
  Size n = (n ≡ length (number_digits v)) × (1 ≤ n) × (n ≤ 20)

  pub size_is_power : (o : Option ℕ) (n : ℕ) → IfNone o (v ≡ 0) → IfSome o (λ k. 10 ^ k ≤ v) → IfSome o (λ k. v < 10 * 10 ^ k) → IfSome o (λ k. k < 20)
      → MatchOption o (n ≡ 1) (λ k. n ≡ k + 1) → Size n
  size_is_power None n e l m h r = (r ∙ sym (number_long v ∙ size_one 19 v (omega (arith, e))), omega (arith, r), omega (arith, r))
  size_is_power (Some k) n e l m h r = (r ∙ sym (number_long v ∙ size_power 19 k v (omega (arith, h)) l m), omega (arith, r), omega (arith, r, h))

-- ---- put_digits
sets_set : (b w : List ℕ) (i a d : ℕ) → a < i → set (sets w i b) a d ≡ sets (set w a d) i b
sets_set [] w i a d h = refl
sets_set (x ∷ b) w i a d h =
    sets_set b (set w i x) (suc i) a d (omega arith) ∙ ap (λ (l : List ℕ). sets l (suc i) b) (set_comm w i a x d (λ e. absurd (omega (arith, e))))

-- a byte before a run
store-front : (w : List ℕ) (a n d : ℕ) (b : List ℕ) → n ≡ suc a → set (store w n b) a d ≡ store w a (d ∷ b)
unfolding store
store-front w a n d b e = rw e (sets_set b w (suc a) a d (omega arith))

-- `behind` stands from `at` on; `left` digits, those of q, go before it
pub record Putting (w : List ℕ) (to v : ℕ) (out : List ℕ) (at q : ℕ) : Type 0 where
  pub behind : List ℕ
  pub left : ℕ
  pub place : at ≡ to + left
  pub rest : front left q behind ≡ number_digits v
  pub bytes : out ≡ store w at behind
  pub room : at ≤ length w

module _ (w : List ℕ) (to v s : ℕ) (e : s ≡ length (number_digits v)) where
  pub put_start : to + length (number_digits v) ≤ length w → Putting w to v w (to + s) v
  put_start k = record {
    behind = [];
    left = s;
    place = refl;
    rest = ap (λ (n : ℕ). front n v []) (e ∙ number_long v) ∙ sym (number-front v);
    bytes = sym (store-none w (to + s));
    room = omega (arith, e);
  }

module _ (w : List ℕ) (to v : ℕ) where
  pub put_done : (out : List ℕ) (at q : ℕ) → Putting w to v out at q → at ≤ to → out ≡ store w to (number_digits v)
  unfolding front
  put_done out at q c h = go c.left c.place c.rest
    where
      go : (l : ℕ) → at ≡ to + l → front l q c.behind ≡ number_digits v → out ≡ store w to (number_digits v)
      go zero p r = c.bytes ∙ ap (λ (a : ℕ). store w a c.behind) (omega (arith, p)) ∙ ap (store w to) r
      go (suc l) p r = absurd (omega arith)

module _ (w : List ℕ) (to v : ℕ) (out : List ℕ) (at q : ℕ) (c : Putting w to v out at q) where
  pub put_same : length out ≡ length w
  put_same = ap length c.bytes ∙ length_store w at c.behind

  pub put_inside : to < at → at - 1 < length out
  put_inside h = omega (arith, put_same, c.room)

  pub put_next : to < at → (d : ℕ) → d ≡ 48 + q % 10 → Putting w to v (set out (at - 1) d) (at - 1) (q / 10)
  unfolding front
  put_next h d e = go c.left c.place c.rest
    where
      go : (l : ℕ) → at ≡ to + l → front l q c.behind ≡ number_digits v → Putting w to v (set out (at - 1) d) (at - 1) (q / 10)
      go zero p r = absurd (omega arith)
      go (suc l) p r = record {
        behind = last q ∷ c.behind;
        left = l;
        place = omega arith;
        rest = r;
        bytes = rw (e, c.bytes) (store-front w (at - 1) at (last q) c.behind (omega arith));
        room = omega (arith, c.room);
      }

pub ruleset putting = (rules, put_start, put_done, put_same, put_inside, put_next)
