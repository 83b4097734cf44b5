-- What stands in work after the appending stage: appended items, the texts by number; the stage's size; and that its new texts can be settled. Assumes nothing.
use mathlib.Core.Path.{◌≡◌, refl, sym, ap, ◌∙◌, subst}
use mathlib.Core.Bool.{Bool, true, false}
use mathlib.Core.Logic.{◌⊎◌, inl, inr}
use mathlib.Core.List.{List, ◌++◌, append_assoc}
use Prim.Native.Nat.{ℕ, ◌+◌, ◌-◌, ◌*◌, ◌/◌, ◌^◌, ◌≤◌, ◌<◌}
use native.Mathlib.Omega.{arith}
use borrow.Author.Tests.{leb-true, leb-false}
use lib.Dec.{leb}
use lib.ListN.{length, length-append}
use Rattle.std.specs.Prelude.{Ok, Err}
use Rattle.octets.specs.Plain.Runs.{Lies}
use Rattle.parse_tree.specs.Plain.Tree.{Text, Item, Stage}
use Rattle.parse_tree.specs.Plain.Texts.{with_new, has}
use Rattle.parse_tree.specs.Plain.References.{texts_of_each, item_texts, stage_of}
use Rattle.parse_tree.specs.Plain.WriteTape.{bytes_of_each}
use Rattle.parse_tree.specs.Working.Encode.{atom_bytes, item_bytes, stage_bytes}
use Rattle.parse_tree.specs.Working.Within.{Each}
use Rattle.texts.specs.Atoms.{some_long}
use Rattle.texts.specs.Table.{Above, texts}
use Rattle.texts.proofs.TableStays.{above_stays}
use Rattle.passes.specs.Outcome.{yes}
use Rattle.passes.specs.Macros.{drain, without_macros}
use Rattle.passes.specs.Calls.{sizes}
use Rattle.passes.proofs.Outcomes.{no≢yes}
use Rattle.resolve.specs.declared.Grammar.{Grammar}
use Rattle.replacing.proofs.Growing.{Extends, new_extends}
use Rattle.replacing.proofs.ThereBytes.{there_bytes_each, new_all}
use Rattle.expander.specs.declared.Ground.{Ground}
use Rattle.expander.specs.declared.stage.Replaced.{Replaced}
use Rattle.expander.specs.Names.{listed_texts, named_in, Names}
use Rattle.settling.specs.Settle.{new_bytes, SomePushed, Settling}
use Rattle.appending.specs.declared.Appended.{Appended}
use Rattle.appending.proofs.SymbolsStays.{table_stays, texts-stay}
use Rattle.macro_expand.specs.Drain.{Pile}
use Rattle.macro_expand.proofs.PileStays.{pile_stays}
use Rattle.rounds.specs.declared.Room.{Room}
use Rattle.rounds.specs.declared.State.{State}
use Rattle.rounds.specs.declared.round.Half.{Half}
use Rattle.rounds.specs.Judge.{Verdict, verdict, admitted, SomeStageSize}
use Rattle.rounds.specs.Paid.{Paid}
use Rattle.rounds.specs.Start.{at_start}
use Rattle.rounds.specs.Standing.{RoundTrees, round_atoms, RoundStands}
use Rattle.rounds.specs.Round.{replaced_of, pending_of, replaced_stage, appended_stage, Halfway, Fine, limit_of, Drained}
use Rattle.rounds.proofs.PaidKeeps.{texts-both, round_keeps}
use Rattle.rounds.proofs.RoomMeans.{settle_place}
use Rattle.rounds.proofs.RoundStages.{appended_stage_lem, replaced_atoms, appended_atoms, judged, rest_in, fine_parts, verdict-parts, admitted-no}
use Rattle.rounds.proofs.RoundPlaces as places
use Rattle.rounds.proofs.RoundGround as grounds
use Rattle.rounds.proofs.RoundHalf as halves
use Rattle.rounds.proofs.RoundJudged.{listed-many, old_fits, shorts, work_long}
use Rattle.rounds.proofs.RoundPile as piles

-- what was admitted has no verdict against it
pub verdict-none : (v : Verdict) (g k : Stage) → admitted v g ≡ yes k → v ≡ Ok tt
verdict-none (Ok u) g k e = refl
verdict-none (Err why) g k e = absurd (no≢yes why.number (record { 0 = why.from; 1 = why.to }) k (sym (admitted-no (Err why) g why refl) ∙ e))

-- a sum far below half of what a number holds
small_sum : (first end low to y c past n : ℕ) → 8 * (first + c) ≤ n → n < 256 ^ 8 → to + first + past ≤ y + c + 1 → end ≡ low + past → y ≤ to → first + (end - low) + (to - y) < 9223372036854775808
small_sum first end low to y c past n a b d e f = omega arith

module _ (s w : List ℕ) (room : Room) (t : Grammar) (z : State) (T : RoundTrees) (S : RoundStands s w room t z T) (h : Half) (w' : List ℕ) (H : Halfway s w room t z h w') (pushed : 0 < h.r.pile)
    (F : Fine room (replaced_stage T)) (new : List Item) (v : Appended) (w''' : List ℕ) (D : Drained s w' room t z T h H.middle new v w''') where
  abbrev g : Ground
  g = h.g

  abbrev r : Replaced
  r = h.r

  abbrev w'' : List ℕ
  w'' = D.middle

  abbrev lim : ℕ
  lim = limit_of room z

  pub names : Names s w''' g r.pile v.count D.starts.places
  names = D.appends.going.names

  -- ---- the texts by number
  pub texts-last : texts s w''' g.m ≡ round_atoms T
  texts-last =
      texts-stay s g r.pile lim D.starts.places w'' (at_start r) D.starts.pile.going _ v w''' D.appends
      ∙ piles.texts-then s w room t z T S h w' H pushed F w'' D.cleared

  abbrev pub all_texts : List Text
  all_texts = listed_texts s w''' g v.count

  abbrev all_items : List Item
  all_items = T.old ++ replaced_of T ++ new

  named : named_in s w''' g v.count ≡ (stage_of (round_atoms T) all_items).atoms
  named =
      D.appends.texts-are
      ∙ ap (λ (ts : List Text). with_new ts (texts_of_each item_texts new)) (
      D.starts.texts-are
      ∙ ap (λ (ts : List Text). (stage_of ts (replaced_of T)).atoms) (grounds.texts-now s w room t z T S g H.middle H.grounds)
      ∙ sym (replaced_atoms (round_atoms T) T.old (replaced_of T) S.grown.begins.old_known))
      ∙ sym (appended_atoms (round_atoms T) (T.old ++ replaced_of T) new)

  pub atoms_all : (stage_of (round_atoms T) all_items).atoms ≡ round_atoms T ++ all_texts
  unfolding named_in
  atoms_all = sym named ∙ ap (λ (ts : List Text). ts ++ all_texts) texts-last

  pub stage_is : appended_stage T new ≡ stage_of (round_atoms T) all_items
  stage_is = appended_stage_lem (round_atoms T) (T.old ++ replaced_of T) new

  pub atoms_are : (appended_stage T new).atoms ≡ round_atoms T ++ all_texts
  atoms_are = ap (λ (k : Stage). k.atoms) stage_is ∙ atoms_all

  -- ---- bytes
  extends : Extends (replaced_stage T).atoms (stage_of (round_atoms T) all_items).atoms
  extends = subst (Extends (replaced_stage T).atoms) (sym (appended_atoms (round_atoms T) (T.old ++ replaced_of T) new)) (new_extends (replaced_stage T).atoms (texts_of_each item_texts new))

  there : Each (λ (u : Text). has u (replaced_stage T).atoms ≡ true) (texts_of_each item_texts (T.old ++ replaced_of T))
  unfolding stage_of
  there = new_all (round_atoms T) (texts_of_each item_texts (T.old ++ replaced_of T))

  -- theorem: the items before have the same bytes
  pub before_same : bytes_of_each (item_bytes 2 (round_atoms T ++ all_texts)) (T.old ++ replaced_of T) ≡ bytes_of_each (item_bytes 2 (replaced_stage T).atoms) (T.old ++ replaced_of T)
  before_same =
      ap (λ (ts : List Text). bytes_of_each (item_bytes 2 ts) (T.old ++ replaced_of T)) (sym atoms_all)
      ∙ there_bytes_each 2 (replaced_stage T).atoms (stage_of (round_atoms T) all_items).atoms extends (T.old ++ replaced_of T) there

  abbrev pub new_items : List ℕ
  new_items = bytes_of_each (item_bytes 2 (round_atoms T ++ all_texts)) new

  new_bytes_lem : bytes_of_each (item_bytes 2 (named_in s w''' g v.count)) new ≡ new_items
  new_bytes_lem = ap (λ (ts : List Text). bytes_of_each (item_bytes 2 ts) new) (named ∙ atoms_all)

  pub new_whole : r.to + length new_items ≤ lim → Lies w''' r.to new_items v.to
  new_whole l = subst (λ (xs : List ℕ). Lies w''' r.to xs v.to) new_bytes_lem (D.appends.whole (omega (arith, l, ap length new_bytes_lem)))

  new_over : lim < r.to + length new_items → v.to ≡ lim + 1
  new_over l = D.appends.over (omega (arith, l, ap length new_bytes_lem))

  -- ---- the size
  abbrev pub counted_all : ℕ
  counted_all = room.first + (room.end - z.low) + (v.to - room.y)

  abbrev rest : ℕ
  rest = rest_in room.cap (round_atoms T) all_texts (T.old ++ replaced_of T) new atoms_all (shorts s w room t z T S h w' H) (old_fits s w room t z T S h w' H)

  to_is : r.to ≡ room.y + length (bytes_of_each (item_bytes 2 (round_atoms T ++ all_texts)) (T.old ++ replaced_of T))
  to_is = omega (arith, (halves.items_lie s w room t z T S h w' H).end, ap length before_same)

  rest-is : rest ≡ room.first + places.past_size s w room t z T S + (r.to - room.y) + length new_items
  rest-is = omega (arith, to_is, texts-both T.first T.past, S.first)

  counted : (counted_all ≡ rest) ⊎ ((room.cap < counted_all) × (room.cap < rest))
  counted = go (leb (r.to + length new_items) lim) refl
    where
      go : (b : Bool) → leb (r.to + length new_items) lim ≡ b → (counted_all ≡ rest) ⊎ ((room.cap < counted_all) × (room.cap < rest))
      go true e =
          let l = (new_whole (leb-true (r.to + length new_items) lim e)).end in
          inl (omega (arith, l, rest-is, places.low-is s w room t z T S, to_is))
      go false e =
          let l = leb-false (r.to + length new_items) lim e in
          let k = new_over l in
          let m = piles.limit_is s w room t z T S h w' H pushed F in
          inr (omega (arith, k, m, places.low-is s w room t z T S), omega (arith, l, rest-is, m, to_is))

  count-all : g.m.count + v.count ≡ length (round_atoms T) + length all_texts
  count-all = omega (arith, grounds.count-is s w room t z T S g H.middle H.grounds, places.texts-many s w room t z T S, listed-many s w''' g v.count)

  -- theorem: what `sizes` says of the appending stage
  pub judged-all : sizes 2 room.cap (appended_stage T new) ≡ admitted (verdict (g.m.count + v.count) (some_long all_texts) v.deep (counted_all + length (new_bytes s w''' g v.count)) room.cap) (appended_stage T new)
  unfolding new_bytes
  judged-all =
      ap (sizes 2 room.cap) stage_is
      ∙ judged room.cap (round_atoms T) all_texts (T.old ++ replaced_of T) new atoms_all (shorts s w room t z T S h w' H) (old_fits s w room t z T S h w' H) v.deep D.appends.deep counted_all counted
      ∙ ap (λ (n : ℕ). admitted (verdict n (some_long all_texts) v.deep (counted_all + length (bytes_of_each (atom_bytes 2) all_texts)) room.cap) (stage_of (round_atoms T) all_items)) (sym count-all)
      ∙ ap (admitted (verdict (g.m.count + v.count) (some_long all_texts) v.deep (counted_all + length (bytes_of_each (atom_bytes 2) all_texts)) room.cap)) (sym stage_is)

  pub to_on : r.to ≤ v.to
  to_on = go (leb (r.to + length new_items) lim) refl
    where
      go : (b : Bool) → leb (r.to + length new_items) lim ≡ b → r.to ≤ v.to
      go true e = omega (arith, (new_whole (leb-true (r.to + length new_items) lim e)).end)
      go false e = omega (arith, new_over (leb-false (r.to + length new_items) lim e), piles.to_limit s w room t z T S h w' H pushed F)

  small_all : counted_all < 9223372036854775808
  small_all =
      small_sum room.first room.end z.low v.to room.y room.cap (places.past_size s w room t z T S) (length w) (work_long s w room t z T S h w' H) S.map.short
      (omega (arith, D.appends.going.upto, piles.limit_is s w room t z T S h w' H pushed F)) (places.low-is s w room t z T S) (omega (arith, to_on, to_is))

  -- theorem: it can be asked
  pub ask_all : SomeStageSize s w''' g r.pile v.count counted_all
  ask_all = record { places = D.starts.places; ground = D.appends.going.ground; names = names; small = small_all }

  -- ---- the new texts can be settled
  module _ (d : drain T.definitions (pending_of T) ≡ yes new) (E : Fine room (appended_stage T new)) where
    said : (g.m.count + v.count ≤ 65536) × (some_long all_texts ≡ false) × (v.deep ≡ false) × (counted_all + length (new_bytes s w''' g v.count) ≤ room.cap)
    said =
        verdict-parts (g.m.count + v.count) (some_long all_texts) v.deep (counted_all + length (new_bytes s w''' g v.count)) room.cap
        (verdict-none _ (appended_stage T new) (appended_stage T new) (sym judged-all ∙ E))

    -- all of them were written
    pub all_fit : room.first + places.past_size s w room t z T S + length (new_bytes s w''' g v.count) + (v.to - room.y) ≤ room.cap
    all_fit = omega (arith, said.3, places.low-is s w room t z T S)

    pub new_lie : Lies w''' r.to new_items v.to
    new_lie = go (leb (r.to + length new_items) lim) refl
      where
        go : (b : Bool) → leb (r.to + length new_items) lim ≡ b → Lies w''' r.to new_items v.to
        go true e = new_whole (leb-true (r.to + length new_items) lim e)
        go false e = absurd (omega (arith, new_over (leb-false (r.to + length new_items) lim e), piles.limit_is s w room t z T S h w' H pushed F, all_fit))

    pub all_paid : Paid T.owed (T.past ++ all_texts) all_items
    all_paid =
        let B = S.grown.begins in
        let k : 1 ≤ length (pending_of T) = omega (arith, pushed, piles.pushed-is s w room t z T S h w' H pushed F) in
        round_keeps T.owed T.definitions T.old (without_macros T.items) new T.keys (round_atoms T) T.past all_texts B.macros-known B.old_known B.fresh_known B.keys_known d atoms_are
        (B.paid k)

    -- the stage's length, by its bytes
    stage_size : length (stage_bytes 2 (record { atoms = T.first ++ (T.past ++ all_texts); items = all_items })) ≤ room.cap
    unfolding stage_of
    stage_size =
        let a : round_atoms T ++ all_texts ≡ T.first ++ (T.past ++ all_texts) = append_assoc T.first T.past all_texts in
        let e : appended_stage T new ≡ record { atoms = T.first ++ (T.past ++ all_texts); items = all_items } = stage_is ∙ ap (λ (ts : List Text). record { atoms = ts; items = all_items }) (atoms_all ∙ a) in
        subst (λ (k : Stage). length (stage_bytes 2 k) ≤ room.cap) e (fine_parts room.cap (appended_stage T new) E).1

    pub records_fit : z.m.base + 24 * (z.m.count + v.count) + 32 * (places.items_size s w room t z T S / 9) ≤ room.x
    records_fit =
        omega (
          arith,
          settle_place room.cap T.definitions T.old T.items T.keys T.first T.past T.owed S.grown.begins (places.four_first s w room t z T S) S.grown.size S.grown.owed_cap S.map.items S.grown.name
              S.grown.named S.grown.long (T.past ++ all_texts) all_items all_paid stage_size,
          length-append T.first (T.past ++ all_texts),
          length-append T.past all_texts,
          length-append T.first T.past,
          places.texts-many s w room t z T S,
          listed-many s w''' g v.count,
          S.map.base_is,
          S.map.x_is,
          S.map.tape,
          S.first,
        )

    above_low : Above s w''' g.m z.low
    above_low =
        above_stays s w'' g.m w''' g.m z.low (table_stays s g r.pile lim D.starts.places w'' (at_start r) D.starts.pile.going _ v w''' D.appends)
        (piles.above_low s w room t z T S h w' H pushed F w'' D.cleared)

    new_below : room.y + length (new_bytes s w''' g v.count) ≤ z.low
    new_below = omega (arith, all_fit, places.low_place s w room t z T S)

    -- what was pushed is as before it was expanded
    piled : Pile s w''' g r.pile lim t v D.starts.places false T.definitions
    piled = pile_stays s g r.pile lim D.starts.places w'' (at_start r) D.starts.pile.going _ v w''' D.appends t false T.definitions D.starts.pile

    -- theorem
    pub can_settle : Settling s w''' g r.pile v.count z.low
    can_settle = record {
      places = D.starts.places;
      ground = D.appends.going.ground;
      names = names;
      few = said.0;
      short = said.1;
      records = omega (arith, records_fit, grounds.keys_is s w room t z T S g H.middle H.grounds, grounds.base_is s w room t z T S g H.middle H.grounds, grounds.count-is s w room t z T S g H.middle H.grounds);
      items = omega (arith, H.grounds.end_is, places.items_before s w room t z T S, new_below);
      top = omega (arith, grounds.top_is s w room t z T S g H.middle H.grounds, S.map.y_is, new_below);
      far = omega (arith, places.x_behind s w room t z T S, S.map.y_is, new_below);
      inside = omega (arith, places.low-is s w room t z T S, S.map.inside, D.appends.long, (piles.wrote s w room t z T S h w' H pushed F w'' D.cleared).long);
      above = above_low;
      behind = D.appends.going.behind;
      referred = λ j l. (piled.piled j l).referred;
    }

    pub some_pushed : SomePushed s w''' g r.pile
    some_pushed = record { count = v.count; places = D.starts.places; ground = D.appends.going.ground; names = names }
