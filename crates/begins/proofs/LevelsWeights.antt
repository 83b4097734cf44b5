-- What new texts cost where those of M are owed: the others are names of levels whose items are there. Assumes nothing.
use mathlib.Core.Path.{◌≡◌, refl}
use mathlib.Core.Bool.{Bool, true, false}
use mathlib.Core.List.{List, [], ◌∷◌, ◌++◌}
use Prim.Native.Nat.{ℕ, ◌+◌, ◌*◌, ◌≤◌}
use native.Mathlib.Omega.{arith}
use lib.ListN.{length, length-append}
use Rattle.octets.specs.Working.Choice.{pick}
use Rattle.parse_tree.specs.Plain.Tree.{Text}
use Rattle.parse_tree.specs.Plain.Texts.{has, with_new}
use Rattle.parse_tree.specs.Plain.WriteTape.{bytes_of_each}
use Rattle.parse_tree.specs.Working.Encode.{atom_bytes}
use Rattle.parse_tree.specs.Working.Within.{Each}
use Rattle.parse_tree.proofs.ReadBack.{atom_size}
use Rattle.parse_tree.proofs.AmongLaws.{has_here, has-later}
use Rattle.parse_tree.proofs.ReadingLaws.{each_all}
use Rattle.rounds.specs.Paid.{weigh, cost24, cost20, Known}
use Rattle.rounds.proofs.PaidTexts.{new_weighs, records_24, records_20}
use Rattle.rounds.proofs.PaidRounds.{each_at}
use Rattle.begins.specs.Lowers.{owes, unless}

-- ---- weights
weigh-both : (f : Text → ℕ) (xs ys : List Text) → weigh f (xs ++ ys) ≡ weigh f xs + weigh f ys
unfolding weigh
weigh-both f [] ys = omega arith
weigh-both f (x ∷ xs) ys = omega (arith, weigh-both f xs ys)

weigh-most : (f : Text → ℕ) (k : ℕ) → ((t : Text) → f t ≤ k) → (us : List Text) → weigh f us ≤ k * length us
unfolding weigh
weigh-most f k h [] = omega arith
weigh-most f k h (t ∷ us) = let z : k * length (t ∷ us) ≡ k + k * length us = omega arith in omega (arith, h t, weigh-most f k h us, z)

weigh-none : (f : Text → ℕ) (us : List Text) → Each (λ t. f t ≡ 0) us → weigh f us ≡ 0
unfolding weigh
weigh-none f [] h = refl
weigh-none f (t ∷ us) h = omega (arith, h.0, weigh-none f us h.1)

-- ---- texts among others
-- theorem: each is among all
pub themselves : (ts : List Text) → Each (λ (t : Text). has t ts ≡ true) ts
themselves [] = tt
themselves (t ∷ ts) = (has_here t ts, each_all (λ (x : Text). has x ts ≡ true) (λ (x : Text). has x (t ∷ ts) ≡ true) (λ x h. has-later x t ts h) ts (themselves ts))

module _ (M : List Text) (long : Each (λ (t : Text). 2 ≤ length t) M) where
  long_at : (t : Text) → has t M ≡ true → 2 ≤ length t
  long_at t h = each_at (λ (x : Text). 2 ≤ length x) M t long h

  owes-few : (t : Text) → owes M t ≤ 1
  unfolding owes pick
  owes-few t = go (has t M)
    where
      go : (b : Bool) → pick b 1 0 ≤ 1
      go true = omega arith
      go false = omega arith

  none_of : (f : Text → ℕ) (t : Text) → has t M ≡ true → unless M f t ≡ 0
  unfolding unless pick
  none_of f t h = rw h refl

  -- theorem: what is owed has five bytes
  pub owed_five : (us : List Text) → 5 * weigh (owes M) us ≤ length (bytes_of_each (atom_bytes 2) us)
  unfolding weigh bytes_of_each owes pick
  owed_five [] = omega arith
  owed_five (t ∷ us) = omega (arith, go (has t M) refl, owed_five us, atom_size 2 t, length-append (atom_bytes 2 t) (bytes_of_each (atom_bytes 2) us))
    where
      go : (b : Bool) → has t M ≡ b → 5 * pick b 1 0 ≤ 3 + length t
      go true e = omega (arith, long_at t e)
      go false e = omega arith

  -- a cost that is at most k for a text of two bytes
  module _ (f : Text → ℕ) (k : ℕ) (cheap : (t : Text) → 2 ≤ length t → f t ≤ k) where
    apart : (us : List Text) → weigh f us ≤ weigh (unless M f) us + k * weigh (owes M) us
    unfolding weigh unless owes pick
    apart [] = omega arith
    apart (t ∷ us) =
        let z : k * (pick (has t M) 1 0 + weigh (owes M) us) ≡ k * pick (has t M) 1 0 + k * weigh (owes M) us = omega arith in
        omega (arith, go (has t M) refl, apart us, z)
      where
        go : (b : Bool) → has t M ≡ b → f t ≤ pick b 0 (f t) + k * pick b 1 0
        go true e = omega (arith, cheap t (long_at t e))
        go false e = omega arith

  unless-less : (f : Text → ℕ) (t : Text) → unless M f t ≤ f t
  unfolding unless pick
  unless-less f t = go (has t M)
    where
      go : (b : Bool) → pick b 0 (f t) ≤ f t
      go true = omega arith
      go false = omega arith

  -- the texts ys bring us to ts; each is among ts, N or M
  module _ (ts ys N us : List Text) (known : Each (Known ts (N ++ M)) ys) (new : with_new ts ys ≡ ts ++ us) where
    -- theorem: no more are owed than there are names
    pub owed_names : weigh (owes M) us ≤ length N + length M
    owed_names = omega (arith, new_weighs (owes M) ts ys (N ++ M) us known new, weigh-most (owes M) 1 owes-few (N ++ M), length-append N M)

    others : (f : Text → ℕ) (k : ℕ) → ((t : Text) → f t ≤ k) → weigh (unless M f) us ≤ k * length N
    others f k h =
        let a = new_weighs (unless M f) ts ys (N ++ M) us known new in
        let b = weigh-both (unless M f) N M in
        let c = weigh-none (unless M f) M (each_all (λ (t : Text). has t M ≡ true) (λ (t : Text). unless M f t ≡ 0) (none_of f) M (themselves M)) in
        let d = weigh-most (unless M f) k (λ t. omega (arith, unless-less f t, h t)) N in
        omega (arith, a, b, c, d)

    -- theorem: records of 24
    pub names_24 : 24 * length us ≤ 12 * length N + 4 * length (bytes_of_each (atom_bytes 2) us) + 4 * weigh (owes M) us
    names_24 = omega (arith, records_24 us, apart cost24 4 (λ t h. omega (arith, h)) us, others cost24 12 (λ t. omega arith))

    -- theorem: and of 20
    pub names_20 : 20 * length us ≤ 17 * length N + length (bytes_of_each (atom_bytes 2) us) + 15 * weigh (owes M) us
    names_20 = omega (arith, records_20 us, apart cost20 15 (λ t h. omega (arith, h)) us, others cost20 17 (λ t. omega arith))
