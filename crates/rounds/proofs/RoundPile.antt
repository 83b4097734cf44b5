-- The pile that appending begins with, in work: there is room, and the definitions stand. Assumes nothing.
use mathlib.Core.Path.{◌≡◌, ap, ◌∙◌, subst}
use mathlib.Core.Bool.{false}
use mathlib.Core.List.{List, ◌++◌}
use Prim.Native.Nat.{ℕ, ◌+◌, ◌-◌, ◌/◌, ◌≤◌, ◌<◌}
use native.Mathlib.Omega.{arith}
use lib.ListN.{length, length-append}
use Rattle.parse_tree.specs.Plain.Tree.{Text, Item}
use Rattle.parse_tree.specs.Plain.References.{stage_of}
use Rattle.parse_tree.specs.Plain.WriteTape.{bytes_of_each}
use Rattle.parse_tree.specs.Working.Encode.{atom_bytes, item_bytes, stage_bytes}
use Rattle.texts.specs.Table.{Above, texts}
use Rattle.texts.proofs.TableStays.{above_lower, above_stays}
use Rattle.passes.specs.Outcome.{Outcome, yes, no}
use Rattle.passes.specs.Macros.{drain}
use Rattle.resolve.specs.declared.Grammar.{Grammar}
use Rattle.expander.specs.declared.Ground.{Ground}
use Rattle.expander.specs.declared.stage.Replaced.{Replaced}
use Rattle.expander.specs.Ground.{size_in, list_place, Around}
use Rattle.expander.specs.Stage.{WroteOnly}
use Rattle.expander.specs.Names.{listed_texts}
use Rattle.expander.proofs.GroundLaws.{table-around, texts-around}
use Rattle.expander.proofs.HeldStays.{around_wrote, wrote_same, above_wrote}
use Rattle.settling.specs.Settle.{new_bytes}
use Rattle.appending.specs.Pieces.{Appends}
use Rattle.std.specs.Prelude.{Result}
use Rattle.appending.specs.declared.Appended.{Appended}
use Rattle.parse_tree.specs.declared.refusal.Refusal.{Refusal}
use Rattle.macro_expand.specs.Drain.{Declares, SomePile, items_piece, DrainedBy, Drains}
use Rattle.rounds.specs.declared.Room.{Room}
use Rattle.rounds.specs.declared.State.{State}
use Rattle.rounds.specs.declared.round.Half.{Half}
use Rattle.rounds.specs.Start.{Cleared, Roomy, StartsAppending, at_start}
use Rattle.rounds.specs.Standing.{RoundTrees, round_atoms, RoundStands}
use Rattle.rounds.specs.Round.{replaced_of, pending_of, replaced_stage, Halfway, Fine, limit_of, DrainedTo}
use Rattle.rounds.proofs.PaidKeeps.{texts-both}
use Rattle.rounds.proofs.PaidStarts.{records_few}
use Rattle.rounds.proofs.StartNames.{cleared_around}
use Rattle.rounds.proofs.StartMeans.{pile_starts}
use Rattle.rounds.proofs.LastPushed.{pile_count}
use Rattle.rounds.proofs.RoomMeans.{list_place_lem}
use Rattle.rounds.proofs.DefinesStay.{declares_now}
use Rattle.rounds.proofs.RoundStages.{fine_parts}
use Rattle.rounds.proofs.RoundPlaces as places
use Rattle.rounds.proofs.RoundGround as grounds
use Rattle.rounds.proofs.RoundHalf as halves

module _ (s w : List ℕ) (room : Room) (t : Grammar) (z : State) (T : RoundTrees) (S : RoundStands s w room t z T) (h : Half) (w' : List ℕ) (H : Halfway s w room t z h w') (pushed : 0 < h.r.pile)
    (F : Fine room (replaced_stage T)) where
  abbrev g : Ground
  g = h.g

  abbrev r : Replaced
  r = h.r

  abbrev w₁ : List ℕ
  w₁ = H.middle

  -- ---- numbers
  pub pushed-is : length (pending_of T) ≡ r.pile
  pushed-is = pile_count s w₁ g z.done r w' T.items T.keys (halves.found s w room t z T S h w' H).0 T.definitions (halves.replacing s w room t z T S h w' H)

  -- the stage's bytes
  pub half_fits : room.first + places.past_size s w room t z T S + length (new_bytes s w' g r.count) + (r.to - room.y) ≤ room.cap
  unfolding stage_bytes stage_of new_bytes
  half_fits =
      let us = listed_texts s w' g r.count in
      let l = (fine_parts room.cap (replaced_stage T) F).1 in
      let i = bytes_of_each (item_bytes 2 (replaced_stage T).atoms) (T.old ++ replaced_of T) in
      omega (
        arith,
        l,
        length-append (bytes_of_each (atom_bytes 2) (replaced_stage T).atoms) i,
        ap (λ (ts : List Text). length (bytes_of_each (atom_bytes 2) ts)) (halves.atoms_are s w room t z T S h w' H),
        texts-both (round_atoms T) us,
        texts-both T.first T.past,
        S.first,
        (halves.items_lie s w room t z T S h w' H).end,
      )

  pub few : (r.pile + 3 ≤ size_in g / 9) × (g.buckets + 3 ≤ size_in g / 9)
  few =
      let k : 1 ≤ length (pending_of T) = omega (arith, pushed, pushed-is) in
      let (a, b) = records_few (round_atoms T) T.items T.keys k in
      let e = grounds.size_is s w room t z T S g w₁ H.grounds in
      let i : z.end - z.from ≡ places.items_size s w room t z T S = omega (arith, places.items_long s w room t z T S) in
      rw (e, H.grounds.buckets, i, ← pushed-is) (a, b)

  list_fits : list_place g (r.pile + 9) ≤ g.keys
  list_fits =
      let k : 1 ≤ length (pending_of T) = omega (arith, pushed, pushed-is) in
      omega (
        arith,
        grounds.list_is s w room t z T S g w₁ H.grounds (r.pile + 9),
        grounds.keys_is s w room t z T S g w₁ H.grounds,
        list_place_lem room.cap T.definitions T.old T.items T.keys T.first T.past T.owed S.grown.begins (places.four_first s w room t z T S) S.grown.size S.grown.owed_cap S.map.items S.grown.name
            S.grown.named S.grown.long k,
        places.texts-many s w room t z T S,
        S.map.base_is,
        S.map.x_is,
        S.map.tape,
        S.first,
        pushed-is,
      )

  pub limit_is : limit_of room z + room.first + places.past_size s w room t z T S ≡ room.y + room.cap
  unfolding limit_of
  limit_is = omega (arith, places.low-is s w room t z T S, half_fits)

  pub limit_low : limit_of room z ≤ z.low
  limit_low = omega (arith, limit_is, places.low_place s w room t z T S)

  pub to_limit : r.to ≤ limit_of room z
  to_limit = omega (arith, limit_is, half_fits, (halves.items_lie s w room t z T S h w' H).end)

  pub inside-16 : room.y + 16 ≤ length w
  inside-16 =
      omega (arith, few.0, grounds.size_is s w room t z T S g w₁ H.grounds, places.sizes-fit s w room t z T S, S.map.end_is, S.map.inside)

  pub keys_slots : g.keys + 96 ≤ g.slots
  keys_slots = omega (arith, few.0, grounds.keys_is s w room t z T S g w₁ H.grounds, grounds.slots_is s w room t z T S g w₁ H.grounds, grounds.size_is s w room t z T S g w₁ H.grounds)

  -- ---- the words of built-in texts can be cleared
  pub clear_room : (72 ≤ g.slots) × (g.slots ≤ length w')
  clear_room = (
    omega (arith, keys_slots),
    omega (arith, grounds.slots_is s w room t z T S g w₁ H.grounds, (halves.wrote s w room t z T S h w' H).long, S.map.y_is, S.map.end_is, S.map.inside),
  )

  module _ (w'' : List ℕ) (k : Cleared g.slots w' w'') where
    around : Around g w' w''
    around = cleared_around s w' w'' g r.pile H.stages.ground few.0 few.1 k

    pub wrote : WroteOnly g z.done r.to w w''
    wrote =
        wrote_same g z.done r.to w w' w'' (halves.wrote s w room t z T S h w' H)
        (around_wrote g z.done r.to w' w'' (grounds.top_before s w room t z T S g w₁ H.grounds) (omega (arith, halves.to_is s w room t z T S h w' H)) around)

    pub texts-then : texts s w'' g.m ≡ round_atoms T
    texts-then = texts-around s w' w'' g H.stages.ground around ∙ halves.texts-then s w room t z T S h w' H

    pub above_low : Above s w'' g.m z.low
    above_low =
        let a = above_wrote s w₁ w' g z.done r.to z.low H.grounds.ground (grounds.top_before s w room t z T S g w₁ H.grounds) (grounds.items_before s w room t z T S g w₁ H.grounds)
        (halves.to_low s w room t z T S h w' H) (grounds.above_now s w room t z T S g w₁ H.grounds) H.stages.wrote in
        above_stays s w' g.m w'' g.m z.low (table-around s w' w'' g H.stages.ground around) a

    roomy : Roomy s w'' g r (limit_of room z)
    roomy = record {
      records = few.0;
      heads = few.1;
      list = list_fits;
      top = omega (arith, grounds.top_before s w room t z T S g w₁ H.grounds, halves.to_is s w room t z T S h w' H);
      items = omega (arith, grounds.items_before s w room t z T S g w₁ H.grounds, halves.to_is s w room t z T S h w' H);
      upto = omega (arith, to_limit);
      low = omega (arith, grounds.top_before s w room t z T S g w₁ H.grounds, halves.to_is s w room t z T S h w' H, to_limit);
      behind = omega (arith, H.grounds.end_is, places.items_before s w room t z T S, inside-16, wrote.long);
      inside = omega (arith, limit_low, places.low-is s w room t z T S, S.map.inside, wrote.long);
      above = above_lower s w'' g.m z.low (limit_of room z) limit_low above_low;
    }

    declares : Declares s w'' g t (at_start r) false T.definitions
    declares =
        declares_now s w w'' room t z T S g z.done r.to wrote H.grounds.map (grounds.width_is s w room t z T S g w₁ H.grounds) (grounds.top_is s w room t z T S g w₁ H.grounds)
        (omega (arith, places.done_is s w room t z T S)) texts-then (at_start r) (omega (arith, (halves.items_lie s w room t z T S h w' H).end)) inside-16

    -- theorem: the pile stands
    pub starts : StartsAppending s w₁ g r T.items T.keys (limit_of room z) t false T.definitions w''
    starts =
        pile_starts s w₁ g z.done r w' T.items T.keys (halves.found s w room t z T S h w' H).0 T.definitions (halves.replacing s w room t z T S h w' H) w'' k (limit_of room z) roomy t false declares

    pub some_pile : SomePile s w'' g r.pile (limit_of room z) t (at_start r)
    some_pile = record { places = starts.places; four = false; tree = T.definitions; pile = starts.pile }

    -- theorem: what draining it comes to
    pub drained : (q : Result Appended Refusal) (w''' : List ℕ) → Drains s w'' g r.pile (limit_of room z) t (at_start r) q w''' → DrainedTo s w' room t z T h w₁ (drain T.definitions (pending_of T)) q w'''
    unfolding Drains DrainedTo DrainedBy
    drained q w''' d =
        go (drain T.definitions (pending_of T))
        (subst (λ (o : Outcome (List Item)). DrainedBy s w'' g r.pile (limit_of room z) (at_start r) starts.places o q w''') (ap (drain T.definitions) starts.pending) (d starts.places false T.definitions starts.pile))
      where
        go : (o : Outcome (List Item)) → DrainedBy s w'' g r.pile (limit_of room z) (at_start r) starts.places o q w''' → DrainedTo s w' room t z T h w₁ o q w'''
        go (yes new) x = (
          x.0,
          x.1,
          record {
            middle = w'';
            cleared = k;
            starts = starts;
            appends = subst (λ (wd : ℕ). Appends s g r.pile (limit_of room z) starts.places w'' (at_start r) (items_piece wd new) x.0 w''') (grounds.width_is s w room t z T S g w₁ H.grounds) x.2;
          },
        )
        go (no n sp) x = x
