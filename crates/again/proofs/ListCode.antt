-- The ways through `list_items`: the places noted so far stand in the list, and the run from p on notes the others. w₀ is work at the start, w is work. Assumes nothing.
use mathlib.Core.Path.{◌≡◌, refl, sym, ap, ◌∙◌}
use mathlib.Core.Bool.{Bool, true, false}
use mathlib.Core.Logic.{◌⊎◌, inl, inr}
use mathlib.Core.List.{List, ◌∷◌}
use Prim.Native.Nat.{ℕ, suc, ◌+◌, ◌-◌, ◌*◌, ◌<◌, ◌≤◌}
use native.Mathlib.Omega.{arith}
use borrow.Author.Rules.{rules}
use borrow.Author.Tests.{ltb-true, ltb-false}
use mir.Syntax.{w64}
use mir.Val.{Fits}
use lib.Dec.{ltb}
use lib.ListN.{length, get_or}
use Rattle.octets.specs.Plain.Numbers.{le_at, le}
use Rattle.octets.specs.Working.Stores.{store}
use Rattle.octets.proofs.NumbersLaws.{length-le}
use Rattle.octets.proofs.StoreLaws.{length_store, le_at-same, le_at-other, get_d_store_before, get_d_store_after}
use Rattle.parse_tree.specs.Plain.Tree.{Text, Item}
use Rattle.parse_tree.specs.Working.Nodes.{code_size}
use Rattle.expander.specs.Stage.{item_code}
use Rattle.again.specs.List.{Listable, SomeListed, ListsItems}
use Rattle.again.proofs.ListRun.{items_from, from_end, from_item, from_other}
use Rattle.again.proofs.ListMean.{run_means, places-many, place_is}

-- ---- `list_items`
tail_get_d : (xs ys : List ℕ) (p i : ℕ) → xs ≡ p ∷ ys → get_or xs (suc i) 0 ≡ get_or ys i 0
tail_get_d xs ys p i e = ap (λ (l : List ℕ). get_or l (suc i) 0) e

module _ (w₀ : List ℕ) (wd at end list : ℕ) where
  abbrev from : ℕ → List ℕ
  from p = items_from wd w₀ end p

  pub record Listing (w : List ℕ) (p n : ℕ) : Type 0 where
    pub some : SomeListed w₀ wd at end list
    pub behind : at ≤ p
    pub long : length w ≡ length w₀
    pub many : length (from at) ≡ n + length (from p)
    pub left : (i : ℕ) → get_or (from at) (n + i) 0 ≡ get_or (from p) i 0
    pub listed : (i : ℕ) → i < n → le_at 8 w (list + 8 * i) ≡ get_or (from at) i 0 - at
    pub others : (i : ℕ) → (i < list) ⊎ (list + 8 * n ≤ i) → get_or w i 0 ≡ get_or w₀ i 0

  all_many : (ts : List Text) (is : List Item) (four : Bool) → Listable w₀ wd at end list four ts is → length (from at) ≡ length is
  all_many ts is four h = ap length (run_means wd w₀ end ts is at h.lies) ∙ places-many wd w₀ end ts is at

  -- the list ends before the items
  list_fits : SomeListed w₀ wd at end list → list + 8 * length (from at) ≤ at
  list_fits h = omega (arith, all_many h.texts h.items h.four h.listable, h.listable.fits)

  pub list_start : SomeListed w₀ wd at end list → Listing w₀ at 0
  list_start h = record {
    some = h;
    behind = omega arith;
    long = refl;
    many = omega arith;
    left = λ i. ap (λ (j : ℕ). get_or (from at) j 0) (let z : 0 + i ≡ i = omega arith in z);
    listed = λ i l. absurd (omega arith);
    others = λ i l. refl;
  }

  module _ (w : List ℕ) (p n : ℕ) (g : Listing w p n) where
    pub list_long : length w ≡ length w₀
    list_long = g.long

    few : list + 8 * n ≤ at
    few = omega (arith, list_fits g.some, g.many)

    -- ---- the end
    pub list_done : end ≤ p → ListsItems w₀ wd at end list n w
    unfolding ListsItems
    list_done e four ts is h =
        let z : length (from at) ≡ n = omega (arith, g.many, ap length (from_end wd w₀ end p e)) in
        let m = all_many ts is four h in
        record {
          many = omega (arith, z, m);
          places = λ i l.
              g.listed i (omega (arith, z, m))
              ∙ ap (λ (v : ℕ). v - at) (ap (λ (x : List ℕ). get_or x i 0) (run_means wd w₀ end ts is at h.lies) ∙ place_is wd w₀ end ts is at i l) ∙ (omega arith);
          long = g.long;
          others = λ i l. g.others i (go i l (omega (arith, z, m)));
        }
      where
        go : (i : ℕ) → (i < list) ⊎ (list + 8 * length is ≤ i) → length is ≡ n → (i < list) ⊎ (list + 8 * n ≤ i)
        go i (inl l) z = inl l
        go i (inr l) z = inr (omega arith)

    -- ---- a command at p
    module _ (l : p < end) where
      pub list_read : p < length w
      list_read = omega (arith, g.some.listable.inside, g.long)

      pub list_behind : at ≤ p
      list_behind = g.behind

      module _ (c : ℕ) (d : c ≡ get_or w p 0) where
        code : get_or w₀ p 0 ≡ c
        code = sym (d ∙ g.others p (inr (omega (arith, few, g.behind))))

        pub list_on_fits : (k : ℕ) → k ≤ 17 → Fits w64 (p + k)
        list_on_fits k q = record { fits = omega (arith, g.some.listable.inside, g.some.listable.short) }

        module _ (b : Bool) (e : b ≡ item_code c) where
          -- no item begins there
          pub list_other : b ≡ false → (w' : List ℕ) → w' ≡ w → (n' : ℕ) → n' ≡ n → (k : ℕ) → k ≡ code_size wd c → Listing w' (p + k) n'
          list_other f w' x n' y k q =
              let z : from p ≡ from (p + k) = from_other wd w₀ end p c l code (sym e ∙ f) ∙ ap (λ (j : ℕ). from (p + j)) (sym q) in
              rw (x, y) (record {
                some = g.some;
                behind = omega (arith, g.behind);
                long = g.long;
                many = omega (arith, g.many, ap length z);
                left = λ i. g.left i ∙ ap (λ (x : List ℕ). get_or x i 0) z;
                listed = g.listed;
                others = g.others;
              })

          -- an item does
          module _ (f : b ≡ true) where
            step : from p ≡ p ∷ from (p + code_size wd c)
            step = from_item wd w₀ end p c l code (sym e ∙ f)

            room : list + 8 * n + 8 ≤ at
            room = omega (arith, list_fits g.some, g.many, ap length step)

            pub list_times_fits : Fits w64 (8 * n)
            list_times_fits = record { fits = omega (arith, room, g.some.listable.inside, g.some.listable.short, g.behind) }

            pub list_place_fits : Fits w64 (list + 8 * n)
            list_place_fits = record { fits = omega (arith, room, g.some.listable.inside, g.some.listable.short, g.behind) }

            pub list_more_fits : Fits w64 (n + 1)
            list_more_fits = record { fits = omega (arith, room, g.some.listable.inside, g.some.listable.short, g.behind) }

            pub list_room : list + 8 * n + 8 ≤ length w
            list_room = omega (arith, room, g.behind, list_read)

            module _ (w₁ : List ℕ) (o : w₁ ≡ store w (list + 8 * n) (le 8 (p - at))) where
              pub list_stored : length w₁ ≡ length w
              list_stored = ap length o ∙ length_store w (list + 8 * n) (le 8 (p - at))

              now : le_at 8 w₁ (list + 8 * n) ≡ p - at
              now = ap (λ (x : List ℕ). le_at 8 x (list + 8 * n)) o
                  ∙ le_at-same 8 w (list + 8 * n) (p - at) list_room (omega (arith, g.some.listable.inside, g.some.listable.short))

              here : get_or (from at) n 0 ≡ p
              here = ap (λ (j : ℕ). get_or (from at) j 0) (let z : n ≡ n + 0 = omega arith in z) ∙ g.left 0 ∙ ap (λ (x : List ℕ). get_or x 0 0) step

              places : (i : ℕ) → i < n + 1 → le_at 8 w₁ (list + 8 * i) ≡ get_or (from at) i 0 - at
              places i h = go (ltb i n) refl
                where
                  go : (x : Bool) → ltb i n ≡ x → le_at 8 w₁ (list + 8 * i) ≡ get_or (from at) i 0 - at
                  go true q =
                      let y = ltb-true i n q in
                      ap (λ (x : List ℕ). le_at 8 x (list + 8 * i)) o ∙ le_at-other 8 w (list + 8 * n) (le 8 (p - at)) (list + 8 * i) (inl (omega arith)) ∙ g.listed i y
                  go false q =
                      let y : i ≡ n = let u = ltb-false i n q in omega arith in
                      ap (λ (j : ℕ). le_at 8 w₁ (list + 8 * j)) y ∙ now ∙ ap (λ (v : ℕ). v - at) (sym here) ∙ ap (λ (j : ℕ). get_or (from at) j 0 - at) (sym y)

              stays : (i : ℕ) → (i < list) ⊎ (list + 8 * (n + 1) ≤ i) → get_or w₁ i 0 ≡ get_or w₀ i 0
              stays i (inl h) = ap (λ (x : List ℕ). get_or x i 0) o ∙ get_d_store_before w (list + 8 * n) (le 8 (p - at)) i (omega arith) ∙ g.others i (inl h)
              stays i (inr h) =
                  ap (λ (x : List ℕ). get_or x i 0) o ∙ get_d_store_after w (list + 8 * n) (le 8 (p - at)) i (omega (arith, length-le 8 (p - at))) ∙ g.others i (inr (omega arith))

              pub list_item : (w' : List ℕ) → w' ≡ w₁ → (n' : ℕ) → n' ≡ n + 1 → (k : ℕ) → k ≡ code_size wd c → Listing w' (p + k) n'
              list_item w' x n' y k q =
                  let z : from p ≡ p ∷ from (p + k) = step ∙ ap (λ (j : ℕ). p ∷ from (p + j)) (sym q) in
                  rw (x, y) (record {
                    some = g.some;
                    behind = omega (arith, g.behind);
                    long = list_stored ∙ g.long;
                    many = omega (arith, g.many, ap length z);
                    left = λ i. ap (λ (j : ℕ). get_or (from at) j 0) (let y : n + 1 + i ≡ n + suc i = omega arith in y) ∙ g.left (suc i) ∙ tail_get_d (from p) (from (p + k)) p i z;
                    listed = places;
                    others = stays;
                  })

pub ruleset listing = (rules, list_start, list_long, list_done, list_read, list_behind, list_on_fits, list_other, list_times_fits, list_place_fits, list_more_fits, list_room, list_stored, list_item)
