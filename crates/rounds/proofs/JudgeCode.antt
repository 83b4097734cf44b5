-- The ways out of `judge_counts`, `judge_length` and `sizes`. Assumes nothing.
use mathlib.Core.Path.{◌≡◌, refl, sym, ap, ◌∙◌}
use mathlib.Core.Bool.{Bool, true, false, cond}
use mathlib.Core.List.{List}
use Prim.Native.Nat.{ℕ, zero, suc, ◌+◌, ◌*◌, ◌≤◌, ◌<◌}
use native.Mathlib.Omega.{arith}
use mir.Syntax.{w64}
use mir.Val.{Fits}
use borrow.Author.Rules.{rules}
use borrow.Author.Tests.{lt-ltb, le-ltb, ltb-false}
use lib.Dec.{ltb}
use Rattle.std.specs.Prelude.{Option, Some, None, Result, Ok, Err, ok_or}
use Rattle.octets.specs.Working.Choice.{pick}
use lib.ListN.{length}
use Rattle.parse_tree.specs.Working.Refusals.{refusal_at}
use Rattle.parse_tree.specs.declared.refusal.Refusal.{Refusal}
use Rattle.texts.specs.Atoms.{some_long}
use Rattle.expander.specs.declared.Ground.{Ground}
use Rattle.expander.specs.Names.{listed_texts}
use Rattle.expander.proofs.GroundLaws.{keys_slots, slots_top}
use Rattle.settling.specs.Settle.{new_bytes, SomeNew, Counts}
use Rattle.settling.proofs.NewLaws.{bytes_none, size_next, new_rest, each-short}
use Rattle.rounds.specs.Judge.{Verdict, ruled_counts, ruled_length, verdict, SomeStageSize}

module _ (count : ℕ) (beyond : Bool) where
  pub counts_many : (why : Refusal) → why ≡ refusal_at 20 0 → 65536 < count → Err why ≡ ruled_counts count beyond
  unfolding ruled_counts pick
  counts_many why o h = cc (lt-ltb 65536 count h)

  module _ (h : count ≤ 65536) where
    pub counts_beyond : (why : Refusal) → why ≡ refusal_at 20 0 → beyond ≡ true → Err why ≡ ruled_counts count beyond
    unfolding ruled_counts pick
    counts_beyond why o l = cc (le-ltb 65536 count h)

    pub counts_fine : beyond ≡ false → Ok tt ≡ ruled_counts count beyond
    unfolding ruled_counts pick
    counts_fine l = cc (le-ltb 65536 count h)

pub ruleset judging_counts = (rules, counts_many, counts_beyond, counts_fine)

module _ (bytes cap : ℕ) where
  pub length_over : (why : Refusal) → why ≡ refusal_at 21 0 → cap < bytes → Err why ≡ ruled_length bytes cap
  unfolding ruled_length pick
  length_over why o h = cc (lt-ltb cap bytes h)

  pub length_fine : bytes ≤ cap → Ok tt ≡ ruled_length bytes cap
  unfolding ruled_length pick
  length_fine h = cc (le-ltb cap bytes h)

pub ruleset judging_length = (rules, length_over, length_fine)

-- ---- sizes
module _ (s w : List ℕ) (g : Ground) where
  -- a text that is not too long has at most 65,538 bytes with its command
  few_bytes : (c : ℕ) → some_long (listed_texts s w g c) ≡ false → length (new_bytes s w g c) ≤ 65538 * c
  few_bytes zero h = omega (arith, ap length (bytes_none s w g))
  few_bytes (suc c) h =
      let z : suc c ≡ c + 1 = omega arith in
      let e : some_long (listed_texts s w g (c + 1)) ≡ false = ap (λ (k : ℕ). some_long (listed_texts s w g k)) (sym z) ∙ h in
      let y : c + 1 + 0 ≡ c + 1 = omega arith in
      let short = each-short s w g c 0 (ap (λ (k : ℕ). some_long (listed_texts s w g k)) y ∙ e) in
      rw z (omega (arith, size_next s w g c, short, few_bytes c (new_rest s w g c e)))

  module _ (n c bytes : ℕ) (h : SomeStageSize s w g n c bytes) where
    pub sizes-sum : Fits w64 (g.m.count + c)
    sizes-sum = record { fits = omega (arith, h.names.room, h.ground.top, keys_slots s w g h.ground, slots_top s w g h.ground, h.ground.short) }

    -- what is to be said
    abbrev said : Bool → ℕ → Verdict
    said deep cap = verdict (g.m.count + c) (some_long (listed_texts s w g c)) deep (bytes + length (new_bytes s w g c)) cap

    -- 20 by the counts alone is 20 whatever the texts are
    refused : (a d l : Bool) (x : Verdict) (why : Refusal) → ◌≡◌ {A = Verdict} (pick a (Err (refusal_at 20 0)) (pick d (Err (refusal_at 20 0)) (Ok tt))) (Err why)
        → ◌≡◌ {A = Verdict} (Err why) (pick a (Err (refusal_at 20 0)) (pick l (Err (refusal_at 20 0)) (pick d (Err (refusal_at 20 0)) x)))
    unfolding pick
    refused true d l x why p = sym p
    refused false true true x why p = sym p
    refused false true false x why p = sym p
    refused false false l x why p = absurd (cc)

    passed : (a d : Bool) (u : Unit {0}) → ◌≡◌ {A = Verdict} (pick a (Err (refusal_at 20 0)) (pick d (Err (refusal_at 20 0)) (Ok tt))) (Ok u) → (a ≡ false) × (d ≡ false)
    unfolding pick
    passed true d u p = absurd (cc)
    passed false true u p = absurd (cc)
    passed false false u p = (refl, refl)

    module _ (k : ℕ) (e : k ≡ g.m.count + c) (deep : Bool) (r : Verdict) (i : r ≡ ruled_counts k deep) where
      pub sizes-many : (cap : ℕ) (why : Refusal) → r ≡ Err why → Err why ≡ said deep cap
      unfolding verdict ruled_counts pick
      sizes-many cap why o = rw (← e) (refused (ltb 65536 k) deep (some_long (listed_texts s w g c)) (pick (ltb cap (bytes + length (new_bytes s w g c))) (Err (refusal_at 21 0)) (Ok tt)) why (sym i ∙ o))

      module _ (u : Unit {0}) (o : r ≡ Ok u) where
        few : (ltb 65536 k ≡ false) × (deep ≡ false)
        unfolding ruled_counts
        few = passed (ltb 65536 k) deep u (sym i ∙ o)

        few_atoms : k ≤ 65536
        few_atoms = ltb-false 65536 k few.0

        pub sizes-new : SomeNew s w g n c
        sizes-new = record { places = h.places; ground = h.ground; names = h.names; few = omega (arith, few_atoms, e) }

        module _ (f : Option ℕ) (d : Counts s w g c f) (q : Refusal) (y : Result ℕ Refusal) (z : y ≡ ok_or f q) where
          counted : (b : Bool) → some_long (listed_texts s w g c) ≡ b → f ≡ cond b None (Some (length (new_bytes s w g c)))
          unfolding Counts
          counted b j = d ∙ ap (λ (x : Bool). cond x None (Some (length (new_bytes s w g c)))) j

          -- by whether a text is too long
          answer : (b : Bool) → some_long (listed_texts s w g c) ≡ b → y ≡ ok_or (cond b None (Some (length (new_bytes s w g c)))) q
          answer b j = z ∙ ap (λ (x : Option ℕ). ok_or x q) (counted b j)

          pub sizes-long : q ≡ refusal_at 20 0 → (cap : ℕ) (why : Refusal) → y ≡ Err why → Err why ≡ said deep cap
          unfolding verdict pick
          sizes-long m cap why p = go (some_long (listed_texts s w g c)) refl
            where
              go : (b : Bool) → some_long (listed_texts s w g c) ≡ b → Err why ≡ said deep cap
              go true j = let x : y ≡ Err q = answer true j in rw (← e, few.0, j) (let v : why ≡ q = cc in ap Err (v ∙ m))
              go false j = absurd (let x : y ≡ Ok (length (new_bytes s w g c)) = answer false j in cc)

          module _ (x : ℕ) (p : y ≡ Ok x) where
            short : (some_long (listed_texts s w g c) ≡ false) × (x ≡ length (new_bytes s w g c))
            short = go (some_long (listed_texts s w g c)) refl
              where
                go : (b : Bool) → some_long (listed_texts s w g c) ≡ b → (some_long (listed_texts s w g c) ≡ false) × (x ≡ length (new_bytes s w g c))
                go true j = absurd (let v : y ≡ Err q = answer true j in cc)
                go false j = (j, (let v : y ≡ Ok (length (new_bytes s w g c)) = answer false j in cc))

            pub sizes-fits : Fits w64 (bytes + x)
            sizes-fits = record { fits = omega (arith, h.small, short.1, few_bytes c short.0, few_atoms, e) }

            pub sizes-done : (cap : ℕ) (v : Verdict) → v ≡ ruled_length (bytes + x) cap → v ≡ said deep cap
            unfolding verdict ruled_length pick
            sizes-done cap v j = j ∙ rw (← e, few.0, few.1, short.0, short.1) refl

pub ruleset sizing = (rules, sizes-sum, sizes-many, sizes-new, sizes-long, sizes-fits, sizes-done)
