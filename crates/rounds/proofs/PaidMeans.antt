-- The items of the pile pay for the new texts that they bring: what keeps the room for the tables of macro expansion. Assumes nothing.
use mathlib.Core.Path.{◌≡◌}
use mathlib.Core.Bool.{true}
use mathlib.Core.Logic.{◌⊎◌, inl, inr}
use mathlib.Core.List.{List, [], ◌∷◌, ◌++◌, map}
use Prim.Native.Nat.{ℕ, ◌+◌, ◌*◌, ◌≤◌}
use native.Mathlib.Omega.{arith}
use Rattle.parse_tree.specs.Plain.Tree.{Text, star, plus, question, macro, group, count, Item}
use Rattle.parse_tree.specs.Plain.Texts.{has}
use Rattle.parse_tree.specs.Plain.References.{texts_of_each, item_texts}
use Rattle.parse_tree.specs.Working.Within.{Each}
use Rattle.parse_tree.proofs.AmongLaws.{has_here, has-later, has-cases, has-before, has-behind}
use Rattle.parse_tree.proofs.ReadingLaws.{each_all}
use Rattle.passes.specs.Outcome.{Tree, yes}
use Rattle.passes.specs.Macros.{Pending, looking, repeating, listing, expand_symbol, drain}
use Rattle.passes.proofs.Outcomes.{after-yes}
use Rattle.laws.specs.Counts.{heads, over_items}
use Rattle.rounds.specs.Paid.{weigh, cost24, cost20, pending_key, inside_texts, own_texts, Known, PileKnown, TreeKnown}
use Rattle.passes.proofs.ResolveKeeps.{yes_as}
use Rattle.rounds.proofs.PaidItems.{drain-texts}
use Rattle.rounds.proofs.PaidCosts.{expand_pays}

weigh-append : (f : Text → ℕ) (xs ys : List Text) → weigh f (xs ++ ys) ≡ weigh f xs + weigh f ys
unfolding weigh
weigh-append f [] ys = omega arith
weigh-append f (x ∷ xs) ys = omega (arith, weigh-append f xs ys)

-- ---- the sum over the pile
abbrev pub AllPay : List Text → List Item → Type 0
AllPay us is = (weigh cost24 us ≤ heads is) × (weigh cost20 us ≤ heads is + 9 * over_items count is)

-- theorem
pub own-paid : (G : Tree) (xs : List Pending) (is : List Item) → drain G xs ≡ yes is → AllPay (texts_of_each own_texts xs) is
unfolding drain texts_of_each weigh heads over_items
own-paid G [] is e = yes_as (AllPay []) e (omega arith, omega arith)
own-paid G (x ∷ xs) is e =
    let (d, p, q) = after-yes (expand_symbol G x) _ is e in
    let (ds, r, t) = after-yes (drain G xs) _ is q in
    let (a, b) = expand_pays G x d p in
    let (i, j) = own-paid G xs ds r in
    yes_as (AllPay (own_texts x ++ texts_of_each own_texts xs)) t
    (omega (arith, a, i, weigh-append cost24 (own_texts x) (texts_of_each own_texts xs)), omega (arith, b, j, weigh-append cost20 (own_texts x) (texts_of_each own_texts xs)))

-- ---- where the own texts are
key_own : (x : Pending) → has (pending_key x) (own_texts x) ≡ true
unfolding own_texts
key_own (looking s k) = has_here _ []
key_own (repeating s star x) = has_here _ _
key_own (repeating s plus x) = has_here _ _
key_own (repeating s question x) = has_here _ _
key_own (listing s (macro n) xs) = has_here _ []
key_own (listing s group xs) = has_here _ _

keys_own : (t : Text) (xs : List Pending) → has t (map pending_key xs) ≡ true → has t (texts_of_each own_texts xs) ≡ true
unfolding texts_of_each
keys_own t [] h = h
keys_own t (x ∷ xs) h = go (has-cases t (pending_key x) (map pending_key xs) h) (keys_own t xs)
  where
    go : (pending_key x ≡ t) ⊎ (has t (map pending_key xs) ≡ true) → (has t (map pending_key xs) ≡ true → has t (texts_of_each own_texts xs) ≡ true) → has t (own_texts x ++ texts_of_each own_texts xs) ≡ true
    go (inl e) f = rw (← e) (has-before (pending_key x) (own_texts x) (texts_of_each own_texts xs) (key_own x))
    go (inr k) f = has-behind t (own_texts x) (texts_of_each own_texts xs) (f k)

each-has : (us : List Text) → Each (λ (t : Text). has t us ≡ true) us
each-has [] = tt
each-has (u ∷ us) = (has_here u us, each_all (λ (t : Text). has t us ≡ true) (λ (t : Text). has t (u ∷ us) ≡ true) (λ t h. has-later t u us h) us (each-has us))

own-among : (xs : List Pending) → Each (λ x. Each (λ (t : Text). has t (texts_of_each own_texts xs) ≡ true) (own_texts x)) xs
unfolding texts_of_each
own-among [] = tt
own-among (x ∷ xs) =
    let zs = texts_of_each own_texts xs in
    let front = each_all (λ (t : Text). has t (own_texts x) ≡ true) (λ (t : Text). has t (own_texts x ++ zs) ≡ true) (λ t h. has-before t (own_texts x) zs h) (own_texts x) (each-has (own_texts x)) in (
      front,
      each_all (λ y. Each (λ (t : Text). has t zs ≡ true) (own_texts y)) (λ y. Each (λ (t : Text). has t (own_texts x ++ zs) ≡ true) (own_texts y))
          (λ y h. each_all (λ (t : Text). has t zs ≡ true) (λ (t : Text). has t (own_texts x ++ zs) ≡ true) (λ t k. has-behind t (own_texts x) zs k) (own_texts y) h) xs (own-among xs),
    )

-- all texts of the items are among ts or the own texts of the pile
module _ (ts : List Text) (xs : List Pending) where
  abbrev pub Told : Text → Type 0
  Told = Known ts (texts_of_each own_texts xs)

  pub known_own : (t : Text) → Known ts (map pending_key xs) t → Told t
  known_own t (inl h) = inl h
  known_own t (inr h) = inr (keys_own t xs h)

  -- theorem
  pub all_known : (G : Tree) (is : List Item) → TreeKnown ts G → PileKnown ts xs → drain G xs ≡ yes is → Each Told (texts_of_each item_texts is)
  all_known G is g h e =
      drain-texts Told G xs is
      (each_all (λ i. Each (λ (t : Text). has t ts ≡ true) (item_texts i)) (λ i. Each Told (item_texts i)) (λ i k. each_all (λ (t : Text). has t ts ≡ true) Told (λ t j. inl j) (item_texts i) k) G g)
      (each_all (λ x. Each (Known ts (map pending_key xs)) (inside_texts x)) (λ x. Each Told (inside_texts x)) (λ x k. each_all (Known ts (map pending_key xs)) Told known_own (inside_texts x) k) xs h)
      (each_all (λ x. Each (λ (t : Text). has t (texts_of_each own_texts xs) ≡ true) (own_texts x)) (λ x. Each Told (own_texts x))
      (λ x k. each_all (λ (t : Text). has t (texts_of_each own_texts xs) ≡ true) Told (λ t j. inr j) (own_texts x) k) xs (own-among xs))
      e
