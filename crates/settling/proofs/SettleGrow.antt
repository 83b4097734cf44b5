-- All new texts are written: their records come to the table, which then has all texts by number. Assumes nothing.
use mathlib.Core.Path.{◌≡◌, refl, sym, ap, ◌∙◌, subst}
use mathlib.Core.Bool.{Bool, true, false}
use mathlib.Core.Logic.{◌⊎◌, inl, inr}
use mathlib.Core.List.{List, [], ◌∷◌, ◌++◌, append-nil, append_assoc}
use Prim.Native.Nat.{ℕ, zero, suc, ◌+◌, ◌-◌, ◌<◌, ◌≤◌}
use native.Mathlib.Omega.{arith}
use borrow.Author.Tests.{ltb-true, ltb-false}
use lib.Dec.{ltb}
use lib.ListN.{length, get_or}
use Rattle.octets.specs.Plain.Runs.{Lies}
use Rattle.parse_tree.specs.Plain.Tree.{Text}
use Rattle.resolve.proofs.CellsLaws.{lies_agree}
use Rattle.texts.specs.declared.Map.{Map}
use Rattle.texts.specs.Fields.{mark_at, hash_at}
use Rattle.texts.specs.Hash.{hash_of}
use Rattle.texts.specs.Texts.{marked_text, Whole, Behind, texts_of}
use Rattle.texts.specs.Table.{Above, texts, Growing, Grown}
use Rattle.expander.specs.declared.Ground.{Ground}
use Rattle.expander.specs.Ground.{top_of, list_at, Grounded}
use Rattle.expander.specs.Names.{described_by, listed_texts, named_in}
use Rattle.settling.specs.Settle.{new_bytes, Settling, Settles}
use Rattle.settling.proofs.NewLaws.{bytes_none}
use Rattle.settling.proofs.SettleStays.{placed_texts, placed_cells, placed_above}
use Rattle.settling.specs.One.{new_cell}
use Rattle.settling.proofs.SettleLaws.{Told, Going, keys_top, going_top, going_items, going_ground, going_upto}

module _ (s w : List ℕ) (g : Ground) (n c end : ℕ) (h : Settling s w g n c end) (q : ℕ) (w1 : List ℕ) (x : Going s w g c end 0 q w1) where
  above_q : top_of g ≤ q
  above_q = omega (arith, going_top s w g n c end h 0 q w1 x)

  items_q : g.end ≤ q
  items_q = omega (arith, going_items s w g n c end h 0 q w1 x)

  ground : Grounded s w1 g
  ground = going_ground s w g n c end h 0 q w1 x

  old_above : Above s w1 g.m q
  old_above = placed_above s w w1 g (g.m.count + 0) q end h.ground (omega arith) above_q items_q h.above x.placed q (going_upto s w g n c end h 0 q w1 x)

  -- a record of the table, or a new one
  by_record : (P : ℕ → Type 0) → ((i : ℕ) → i < g.m.count → P i) → ((k : ℕ) → k < c → P (g.m.count + k)) → (i : ℕ) → i < g.m.count + c → P i
  by_record P f d i l = go (ltb i g.m.count) refl
    where
      go : (b : Bool) → ltb i g.m.count ≡ b → P i
      go true e = f i (ltb-true i g.m.count e)
      go false e =
          let y = ltb-false i g.m.count e in
          let z : g.m.count + (i - g.m.count) ≡ i = omega arith in
          subst P z (d (i - g.m.count) (omega arith))

  told : (k : ℕ) → k < c → Told s w1 g k (described_by s w g (list_at w g k)) (new_cell (list_at w g k)) q
  told k l = x.told k (omega arith) l

  all_behind : (i : ℕ) → i < g.m.count + c → Behind s q (mark_at w1 g.m.base i)
  all_behind = by_record (λ i. Behind s q (mark_at w1 g.m.base i)) old_above.above (λ k l. (told k l).behind)

  -- theorem: the table can grow
  pub going_grow : Growing s w1 g.m (g.m.count + c)
  going_grow =
      let G = ground in
      record {
        low = q;
        table = G.table;
        upto = omega arith;
        some = G.some;
        room = omega (arith, h.records, keys_top s w g n c end h, G.top);
        roof = omega (arith, h.records, keys_top s w g n c end h, above_q);
        wide = omega (arith, G.heads, keys_top s w g n c end h, above_q);
        whole = by_record (λ i. Whole s w1 (mark_at w1 g.m.base i)) G.table.whole (λ k l. (told k l).whole);
        behind = all_behind;
        hashes =
            by_record (λ i. hash_at w1 g.m.base i ≡ hash_of (marked_text s w1 (mark_at w1 g.m.base i))) G.table.hashes
            (λ k l. (told k l).hash ∙ ap hash_of (sym (told k l).text));
      }

  -- ---- the texts by number
  new_texts_lem : (k : ℕ) → k ≤ c → texts_of s w1 g.m.base (g.m.count + k) ≡ texts s w g.m ++ listed_texts s w g k
  unfolding texts_of listed_texts texts
  new_texts_lem zero l =
      let z : g.m.count + 0 ≡ g.m.count = omega arith in
      ap (texts_of s w1 g.m.base) z ∙ placed_texts s w w1 g (g.m.count + 0) q end h.ground (omega arith) above_q items_q h.above x.placed ∙ sym (append-nil (texts s w g.m))
  new_texts_lem (suc k) l =
      let z : g.m.count + suc k ≡ suc (g.m.count + k) = omega arith in
      ap (texts_of s w1 g.m.base) z
      ∙ ap (λ (us : List Text). us ++ (marked_text s w1 (mark_at w1 g.m.base (g.m.count + k)) ∷ [])) (new_texts_lem k (omega arith))
      ∙ ap (λ (t : Text). (texts s w g.m ++ listed_texts s w g k) ++ (t ∷ [])) (told k (omega arith)).text
      ∙ append_assoc (texts s w g.m) (listed_texts s w g k) (described_by s w g (list_at w g k) ∷ [])

  -- ---- the table has grown
  module _ (m : Map) (w2 : List ℕ) (l : length w2 ≡ length w1) (r : Grown s w1 g.m (g.m.count + c) m w2) where
    after : (i : ℕ) → g.keys ≤ i → get_or w2 i 0 ≡ get_or w1 i 0
    after i d = r.after i (omega (arith, h.records)) (omega (arith, h.ground.heads))

    rest-is : x.rest ≡ new_bytes s w g c
    rest-is = ap (λ (l : List ℕ). l ++ x.rest) (sym (bytes_none s w g)) ∙ sym x.split

    done_lies : Lies w2 q (new_bytes s w g c) end
    done_lies =
        rw rest-is at
        (lies_agree w1 w2 q end x.rest l (omega (arith, x.placed.long, h.inside)) (λ i a b. after i (omega (arith, keys_top s w g n c end h, above_q))) x.lies)

    done_above : (i : ℕ) → i < m.count → Behind s q (mark_at w2 m.base i)
    done_above i d = rw (r.base, r.marks i) (all_behind i (rw r.count at d))

    done_others : (i : ℕ) → (i < g.m.base) ⊎ ((g.keys ≤ i) × (i < q)) ⊎ (end ≤ i) → get_or w2 i 0 ≡ get_or w i 0
    done_others i (inl p) = r.before i p ∙ x.placed.others i (inl (omega arith))
    done_others i (inr (inl p)) = after i p.0 ∙ x.placed.others i (inr (inl p))
    done_others i (inr (inr p)) = after i (omega (arith, keys_top s w g n c end h, above_q, going_upto s w g n c end h 0 q w1 x)) ∙ x.placed.others i (inr (inr p))

    -- theorem: the new texts are settled
    pub going_done : Settles s w g c end (record { m = m; at = q }) w2
    unfolding named_in
    going_done = record {
      long = l ∙ x.placed.long;
      base = r.base;
      count = r.count;
      some = rw r.buckets h.ground.some;
      narrower = omega (arith, r.buckets, r.count, h.ground.narrower);
      table = r.table;
      texts-are = r.same ∙ new_texts_lem c (omega arith);
      first = omega (arith, x.place, ap length (bytes_none s w g));
      lies = done_lies;
      above = record { above = done_above };
      cells = λ k d. r.cells k ∙ placed_cells s w w1 g (g.m.count + 0) q end h.ground (omega arith) above_q items_q h.above x.placed k d;
      new = λ k d. r.cells (g.m.count + k) ∙ (told k d).cell;
      others = done_others;
    }
