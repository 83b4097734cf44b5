-- Laws of `put_key`: a symbol gives way to the nonterminal of its text's number. Assumes nothing.
use mathlib.Core.Path.{◌≡◌, refl, sym, ap, ◌∙◌, subst}
use mathlib.Core.Logic.{◌⊎◌, inl, inr}
use mathlib.Core.List.{List, ◌∷◌, ◌++◌}
use Prim.Native.Nat.{ℕ, zero, suc, ◌+◌, ◌%◌, ◌<◌, ◌≤◌}
use native.Mathlib.Omega.{arith}
use mir.Syntax.{w8, w64}
use mir.Val as Bound
use borrow.Author.Rules.{rules}
use lib.ListN.{length, get_or, length-append}
use Rattle.octets.specs.Plain.Numbers.{le_at, le, Bytes}
use Rattle.octets.specs.Plain.Runs.{Lies}
use Rattle.octets.specs.Working.Stores.{store}
use Rattle.octets.proofs.LiesLaws.{lies_to}
use Rattle.octets.proofs.NumbersLaws.{length-le, low_bytes}
use Rattle.octets.proofs.StoreLaws.{length_store, get_d_store_before, get_d_store_after, lies_store}
use Rattle.parse_tree.specs.Working.Nodes.{node_at}
use Rattle.texts.specs.Table.{Above}
use Rattle.texts.proofs.TableStays.{above_stays}
use Rattle.replacing.specs.Runs.{key_bytes}
use Rattle.replacing.specs.Slots.{Slots, numbered}
use Rattle.replacing.specs.Sound.{HasRef}
use Rattle.expander.specs.declared.Ground.{Ground}
use Rattle.expander.specs.declared.replace.Formed.{Formed}
use Rattle.expander.specs.declared.slots.Numbered.{Numbered}
use Rattle.expander.specs.declared.stage.Replaced.{Replaced}
use Rattle.expander.specs.Ground.{size_in, stage_in, Grounded, Around}
use Rattle.expander.specs.Held.{Held, NumberedBy, Numbers}
use Rattle.expander.specs.Names.{SomeNamed, NameRoom}
use Rattle.expander.specs.Stage.{WroteOnly, SomeFormed, PutBy, PutsFormed}
use Rattle.expander.proofs.GroundLaws.{list_keys, keys_slots, slots_top, listed-around, stage_around, table-around, grounded_around}
use Rattle.expander.proofs.HeldStays.{Between, between-wrote, around_wrote, wrote_same, held_stays}
use Rattle.expander.proofs.NamesLaws.{held-named}
use Rattle.expander.proofs.KnownCodes.{key_bytes_lem}
use Rattle.expander.proofs.StageReads.{bytes_part}
use Rattle.expander.proofs.StageCode.{stage_byte}

-- ---- numbers in the stage
stage_number : (s w : List ℕ) (g : Ground) → Grounded s w g → (n p : ℕ) → p + n ≤ size_in g → le_at n (stage_in w g) p ≡ le_at n w (g.from + p)
unfolding le_at
stage_number s w g G zero p l = refl
stage_number s w g G (suc n) p l =
    let z : g.from + (p + 1) ≡ g.from + p + 1 = omega arith in
    cc (stage_byte s w g G p (omega arith), stage_number s w g G n (p + 1) (omega arith))

-- ---- what is written
long_key : (wd v k : ℕ) → length (36 ∷ (le 8 v ++ le wd k)) ≡ 9 + wd
long_key wd v k = let z = length-append (le 8 v) (le wd k) in let a = length-le 8 v in let b = length-le wd k in omega arith

pub stored_between : (w w' : List ℕ) (a n : ℕ) (vs : List ℕ) → w' ≡ store w a vs → length vs ≡ n → Between a (a + n) w w'
stored_between w w' a n vs o l = rw o (record { long = length_store w a vs; others = go })
  where
    go : (i : ℕ) → (i < a) ⊎ (a + n ≤ i) → get_or (store w a vs) i 0 ≡ get_or w i 0
    go i (inl k) = get_d_store_before w a vs i k
    go i (inr k) = get_d_store_after w a vs i (omega arith)

pub stored_lies : (w w' : List ℕ) (a n : ℕ) (vs : List ℕ) → w' ≡ store w a vs → length vs ≡ n → a + n ≤ length w → Lies w' a vs (a + n)
stored_lies w w' a n vs o l r = rw o (lies_to (ap (λ (m : ℕ). a + m) l) (lies_store w a vs (omega arith)))

module _ (s w : List ℕ) (g : Ground) (r : Replaced) (k : Formed) (G : Grounded s w g) (K : SomeFormed s w g r k) where
  -- ---- it is named, and there is room
  pub key_named : SomeNamed s w g k.pile r.count r.at
  key_named = held-named s w g G k.pile r.count K.slots K.held r.at K.noted

  pub key_room : NameRoom w g r.count r.at
  key_room = record { more = λ _. K.list }

  pub key_span_room : (w1 : List ℕ) → length w1 ≡ length w → g.from + r.at + 1 + 8 ≤ length w1
  unfolding size_in
  key_span_room w1 e = omega (arith, K.inside, G.inside)

  upto : r.to + 9 + g.width.bytes ≤ K.writable.lim
  upto = omega (arith, K.writable.room)

  pub key_to_fits : Bound.Fits w64 (r.to + 9)
  key_to_fits = record { fits = omega (arith, upto, K.writable.inside, G.short) }

  pub key_end_fits : Bound.Fits w64 (r.to + 9 + g.width.bytes)
  key_end_fits = record { fits = omega (arith, upto, K.writable.inside, G.short) }

  -- ---- the text has a number, and the nonterminal is written
  module _ (b : (j : ℕ) → Bound.Fits w8 (get_or w j 0)) (w1 w2 : List ℕ) (n : Numbered) (N : Numbers s w g k.pile r.count r.at n w1) (v : ℕ) (e : v ≡ le_at 8 w1 (g.from + r.at + 1)) (m : ℕ)
      (q : m ≡ n.number % 4294967296) (o : w2 ≡ store w1 r.to (36 ∷ (le 8 v ++ le g.width.bytes m))) where
    by : (x : Slots) → Held s w g k.pile r.count x → HasRef r.at x → NumberedBy s w g k.pile r.count r.at x n w1
    unfolding Numbers
    by x h i = N x h i

    first : NumberedBy s w g k.pile r.count r.at K.slots n w1
    first = by K.slots K.held K.noted

    around : Around g w w1
    around = listed-around s w g G w1 first.changed

    ground : Grounded s w1 g
    ground = grounded_around s w w1 g G around

    above : Above s w1 g.m K.writable.lim
    above = above_stays s w g.m w1 g.m K.writable.lim (table-around s w w1 g G around) K.writable.above

    -- the span stands in the stage
    span_is : v ≡ le_at 8 (stage_in w g) (r.at + 1)
    span_is =
        let z : g.from + r.at + 1 ≡ g.from + (r.at + 1) = omega arith in
        e ∙ ap (le_at 8 w1) z ∙ sym (stage_number s w1 g ground 8 (r.at + 1) (omega (arith, K.inside))) ∙ ap (λ (t : List ℕ). le_at 8 t (r.at + 1)) (stage_around s w w1 g G around)

    stage_bytes_lem : Bytes (stage_in w g)
    unfolding stage_in
    stage_bytes_lem = bytes_part w g.from g.end (λ j. (b j).fits) G.inside

    bytes_are : 36 ∷ (le 8 v ++ le g.width.bytes m) ≡ key_bytes g.width.bytes (node_at g.width.bytes (stage_in w g) r.at) n.number
    bytes_are =
        ap (λ (l : List ℕ). 36 ∷ (le 8 v ++ l)) (ap (le g.width.bytes) q ∙ low_bytes g.width.bytes n.number G.narrow G.wide)
        ∙ ap (λ (u : ℕ). 36 ∷ (le 8 u ++ le g.width.bytes n.number)) span_is
        ∙ sym (key_bytes_lem g.width.bytes (stage_in w g) r.at stage_bytes_lem n.number K.key.key)

    abbrev end : ℕ
    end = r.to + 9 + g.width.bytes

    end_is : r.to + (9 + g.width.bytes) ≡ end
    end_is = omega arith

    between : Between r.to end w1 w2
    between = subst (λ (u : ℕ). Between r.to u w1 w2) end_is (stored_between w1 w2 r.to (9 + g.width.bytes) (36 ∷ (le 8 v ++ le g.width.bytes m)) o (long_key g.width.bytes v m))

    lies : Lies w2 r.to (36 ∷ (le 8 v ++ le g.width.bytes m)) end
    lies = lies_to end_is (stored_lies w1 w2 r.to (9 + g.width.bytes) (36 ∷ (le 8 v ++ le g.width.bytes m)) o (long_key g.width.bytes v m) (omega (arith, upto, K.writable.inside, around.long)))

    abbrev after : Replaced
    after = record { at = k.at; to = r.to + 9 + g.width.bytes; pile = k.pile; count = n.count }

    wrote : WroteOnly g r.to end w w2
    wrote =
        wrote_same g r.to end w w1 w2 (around_wrote g r.to end w w1 K.writable.top (omega arith) around)
        (between-wrote g r.to end w1 w2 K.writable.top between (omega (arith, list_keys s w g G, keys_slots s w g G, slots_top s w g G)))

    each : (x : Slots) → Held s w g k.pile r.count x → HasRef r.at x → PutBy s w g r x after w2
    each x h i =
        let d = by x h i in
        record {
          lies =
              subst (λ (l : List ℕ). Lies w2 r.to l end)
              (bytes_are ∙ ap (key_bytes g.width.bytes (node_at g.width.bytes (stage_in w g) r.at)) d.number) lies;
          held = held_stays s w1 w2 g r.to end K.writable.lim ground K.writable.top K.writable.items upto above between k.pile n.count (numbered g.m.count r.at x).1 d.held;
        }

    pub key_put : PutsFormed s w g r k (record { at = k.at; to = r.to + 9 + g.width.bytes; pile = k.pile; count = n.count }) w2
    key_put = record { at = refl; pile = refl; to = refl; most = first.most; wrote = wrote; each = each }

pub ruleset putting = (rules, key_named, key_room, key_span_room, key_to_fits, key_end_fits, key_put)
