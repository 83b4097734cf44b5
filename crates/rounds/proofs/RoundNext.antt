-- THE THEOREM: what stands in work after a round is what the next one begins with. Assumes nothing.
use mathlib.Core.Path.{◌≡◌, sym, ap, ◌∙◌, subst}
use mathlib.Core.Bool.{true, false}
use mathlib.Core.Logic.{inr}
use mathlib.Core.List.{List, [], ◌∷◌, ◌++◌, map, append_assoc}
use Prim.Native.Nat.{ℕ, ◌+◌, ◌-◌, ◌≤◌, ◌<◌}
use native.Mathlib.Omega.{arith}
use lib.Dec.{leb}
use lib.ListN.{length, get_or}
use Rattle.octets.specs.Plain.Runs.{part, Lies}
use Rattle.octets.specs.Working.Stores.{store}
use Rattle.parse_tree.specs.Plain.Tree.{Text, Item, Stage}
use Rattle.parse_tree.specs.Plain.Texts.{has}
use Rattle.parse_tree.specs.Plain.References.{stage_of}
use Rattle.parse_tree.specs.Plain.WriteTape.{bytes_of_each}
use Rattle.parse_tree.specs.Working.Encode.{atom_bytes, item_bytes, stage_bytes}
use Rattle.parse_tree.specs.Working.Within.{Each, ItemWithin}
use Rattle.texts.specs.Fields.{cell_at}
use Rattle.texts.specs.Table.{texts}
use Rattle.texts.proofs.TableStays.{above_stays}
use Rattle.passes.specs.Outcome.{Tree, yes}
use Rattle.passes.specs.Macros as macros
use Rattle.passes.specs.Macros.{Pending, expand_symbol, drain, without_macros}
use Rattle.passes.specs.Sizes.{stage_fits}
use Rattle.passes.proofs.Outcomes.{after-yes}
use Rattle.passes.proofs.ResolveKeeps.{yes_as}
use Rattle.laws.specs.Counts.{heads}
use Rattle.laws.specs.Keys.{built_ins}
use Rattle.laws.proofs.Counts.{expanded_fit}
use Rattle.laws.proofs.Keys.{replace_items_sound}
use Rattle.resolve.specs.declared.Grammar.{Grammar}
use Rattle.resolve.proofs.CellsLaws.{lies_agree}
use Rattle.replacing.specs.Sound.{Key}
use Rattle.expander.specs.declared.Ground.{Ground}
use Rattle.expander.specs.declared.stage.Replaced.{Replaced}
use Rattle.expander.specs.Ground.{key_at, printed_at}
use Rattle.expander.specs.Held.{down}
use Rattle.expander.specs.Names.{named_in}
use Rattle.settling.specs.declared.settle.Settled.{Settled}
use Rattle.settling.specs.Settle.{new_bytes, MarkedPushed, Settles}
use Rattle.settling.proofs.PushedMean.{marked_named}
use Rattle.appending.specs.declared.Appended.{Appended}
use Rattle.appending.proofs.SymbolsTrees as symbols
use Rattle.rounds.specs.declared.Expander.{Expander}
use Rattle.rounds.specs.declared.Room.{Room}
use Rattle.rounds.specs.declared.State.{State}
use Rattle.rounds.specs.declared.round.Half.{Half}
use Rattle.rounds.specs.Begins.{BeginsRound}
use Rattle.rounds.specs.Steps.{numbers_appended}
use Rattle.rounds.specs.Start.{replaced_by}
use Rattle.rounds.specs.Standing.{RoundTrees, round_atoms, stage_before, Mapped, GrownTrees, Tabled, DefinesMacros, RoundStands}
use Rattle.rounds.specs.Round.{replaced_of, pending_of, replaced_stage, appended_stage, next_trees, Halfway, Fine, Drained, Next}
use Rattle.rounds.proofs.PaidKeeps.{texts-both}
use Rattle.rounds.proofs.RoundBegins.{round_carries}
use Rattle.rounds.proofs.MarksMean.{marks_next}
use Rattle.rounds.proofs.DefinesStay.{defines_next}
use Rattle.rounds.proofs.RoundKeys.{keys_last}
use Rattle.rounds.proofs.RoundStages.{drained_without, fine_parts}
use Rattle.rounds.proofs.RoundPlaces as places
use Rattle.rounds.proofs.RoundGround as grounds
use Rattle.rounds.proofs.RoundHalf as halves
use Rattle.rounds.proofs.Tally as tally
use Rattle.rounds.proofs.RoundPile as piles
use Rattle.rounds.proofs.RoundAppended as appended
use Rattle.rounds.proofs.RoundBytes as bytes

-- a pile that isn't empty gives an item
drain-heads : (G : Tree) (xs : List Pending) (new : List Item) → 0 < length xs → drain G xs ≡ yes new → 15 ≤ heads new
unfolding drain heads
drain-heads G [] new l e = absurd (omega arith)
drain-heads G (x ∷ xs) new l e =
    let (c, p, q) = after-yes (expand_symbol G x) _ new e in
    let (cs, i, j) = after-yes (drain G xs) _ new q in
    yes_as (λ (is : List Item). 15 ≤ heads is) j (omega arith)

module _ (s w : List ℕ) (room : Room) (t : Grammar) (z : State) (T : RoundTrees) (S : RoundStands s w room t z T) (h : Half) (w' : List ℕ) (H : Halfway s w room t z h w') (pushed : 0 < h.r.pile)
    (F : Fine room (replaced_stage T)) (new : List Item) (v : Appended) (w''' : List ℕ) (D : Drained s w' room t z T h H.middle new v w''') (d : drain T.definitions (pending_of T) ≡ yes new)
    (E : Fine room (appended_stage T new)) (w4 : List ℕ) (M : MarkedPushed s w''' h.g h.r.pile w4) (q : Settled) (w5 : List ℕ) (Z : Settles s w4 h.g v.count z.low q w5)
    (w6 : List ℕ) (moved : w6 ≡ store w5 room.x (part h.r.to v.to w5)) (x : Expander) (told : x ≡ numbers_appended h.expander) where
  abbrev g : Ground
  g = h.g

  abbrev r : Replaced
  r = h.r

  abbrev us : List Text
  us = appended.all_texts s w room t z T S h w' H pushed F new v w''' D

  abbrev next : RoundTrees
  next = next_trees T new us

  abbrev new_items : List ℕ
  new_items = appended.new_items s w room t z T S h w' H pushed F new v w''' D

  abbrev after : State
  after = record { expander = x; m = q.m; from = room.x; end = room.x + (v.to - r.to); done = r.to; low = q.at }

  -- ---- the trees
  atoms_next : round_atoms T ++ us ≡ round_atoms next
  atoms_next = append_assoc T.first T.past us

  stage_next : (appended_stage T new).atoms ≡ round_atoms next
  stage_next = appended.atoms_are s w room t z T S h w' H pushed F new v w''' D ∙ atoms_next

  begins_next : BeginsRound 2 T.definitions (T.old ++ replaced_of T) new (replaced_by T.items T.keys).1.keys (round_atoms next) (T.past ++ us) T.owed
  begins_next =
      let k : 1 ≤ length (pending_of T) = omega (arith, pushed, piles.pushed-is s w room t z T S h w' H pushed F) in
      subst (λ (ts : List Text). BeginsRound 2 T.definitions (T.old ++ replaced_of T) new (replaced_by T.items T.keys).1.keys ts (T.past ++ us) T.owed) stage_next
      (round_carries 2 room.cap T.definitions T.old (without_macros T.items) new T.keys (round_atoms T) T.past us T.owed S.grown.begins k d E (appended.atoms_are s w room t z T S h w' H pushed F new v w''' D))

  stage_is : appended_stage T new ≡ stage_before next
  unfolding stage_of
  stage_is = ap (λ (ts : List Text). record { atoms = ts; items = T.old ++ replaced_of T ++ new }) stage_next

  grown_next : GrownTrees room.cap next
  grown_next =
      let x = fine_parts room.cap (appended_stage T new) E in
      record {
        begins = subst (λ (is : List Item). BeginsRound 2 T.definitions (T.old ++ replaced_of T) is (replaced_by T.items T.keys).1.keys (round_atoms next) (T.past ++ us) T.owed) (sym (drained_without T.definitions (pending_of T) new d)) begins_next;
        within = (symbols.each-parts (ItemWithin false 2 (round_atoms next)) (T.old ++ replaced_of T) new begins_next.within).1;
        fits = subst (λ (k : Stage). stage_fits 2 k ≡ true) stage_is x.0;
        size = subst (λ (k : Stage). length (stage_bytes 2 k) ≤ room.cap) stage_is x.1;
        owed_cap = S.grown.owed_cap;
        name = S.grown.name;
        named = S.grown.named;
        long = S.grown.long;
      }

  -- ---- the texts
  texts-next : texts s w6 q.m ≡ round_atoms next
  unfolding named_in
  texts-next =
      (bytes.table-now s w room t z T S h w' H pushed F new v w''' D d E w4 M q w5 Z w6 moved).same
      ∙ Z.texts-are
      ∙ marked_named s w''' g r.pile w4 D.appends.going.ground M r.pile v.count D.starts.places (appended.names s w room t z T S h w' H pushed F new v w''' D)
      ∙ ap (λ (ts : List Text). ts ++ us) (appended.texts-last s w room t z T S h w' H pushed F new v w''' D)
      ∙ atoms_next

  named-next : named_in s w''' g v.count ≡ round_atoms next
  unfolding named_in
  named-next = ap (λ (ts : List Text). ts ++ us) (appended.texts-last s w room t z T S h w' H pushed F new v w''' D) ∙ atoms_next

  abbrev prints : List Text
  prints = map (printed_at s w''' g) (down (key_at w''' g) r.pile)

  keys_next : (replaced_by T.items T.keys).1.keys ≡ prints ++ T.keys
  keys_next =
      let x = piles.few s w room t z T S h w' H pushed F in
      keys_last s H.middle g z.done r w' T.items T.keys (halves.found s w room t z T S h w' H).0 T.definitions (halves.replacing s w room t z T S h w' H) x.0 x.1 D.middle D.cleared _
      D.starts.places D.starts.pile.going _ v w''' D.appends

  none_built : Each (λ (u : Text). has u built_ins ≡ false) (prints ++ T.keys)
  none_built =
      let σ : macros.MacroExpander = record { keys = T.keys; pile = [] } in
      subst (Each (λ (u : Text). has u built_ins ≡ false)) keys_next (replace_items_sound (without_macros T.items) σ S.grown.begins.fresh_sound S.grown.begins.piled).1.keys

  marks_before : (k : ℕ) → k < g.m.count → Key (get_or (texts s w''' g.m) k []) → leb 2147483648 (cell_at w''' g.m.base k) ≡ has (get_or (texts s w''' g.m) k []) T.keys
  marks_before k l y =
      let e = appended.texts-last s w room t z T S h w' H pushed F new v w''' D in
      let n : k < z.m.count = omega (arith, grounds.count-is s w room t z T S g H.middle H.grounds) in
      ap (λ (b : ℕ). leb 2147483648 (cell_at w''' b k)) (grounds.base_is s w room t z T S g H.middle H.grounds)
      ∙ ap (leb 2147483648) (bytes.cell_before s w room t z T S h w' H pushed F new v w''' D d E w4 M q w5 Z w6 moved k n)
      ∙ S.tabled.marks k n (subst (λ (ts : List Text). Key (get_or ts k [])) e y)
      ∙ ap (λ (ts : List Text). has (get_or ts k []) T.keys) (sym e)

  marks_then : (k : ℕ) → k < q.m.count → Key (get_or (round_atoms next) k []) → leb 2147483648 (cell_at w6 q.m.base k) ≡ has (get_or (round_atoms next) k []) (replaced_by T.items T.keys).1.keys
  marks_then k l y =
      ap (leb 2147483648) ((bytes.table-now s w room t z T S h w' H pushed F new v w''' D d E w4 M q w5 Z w6 moved).cells k l)
      ∙ marks_next s w''' g r.pile v.count D.starts.places (appended.names s w room t z T S h w' H pushed F new v w''' D) T.keys marks_before none_built w4 M z.low q w5 Z k l
      (subst (λ (ts : List Text). Key (get_or ts k [])) (sym named-next) y)
      ∙ ap (λ (ts : List Text). has (get_or ts k []) (prints ++ T.keys)) named-next
      ∙ ap (has (get_or (round_atoms next) k [])) (sym keys_next)

  tabled_next : Tabled s w6 q.m q.at (round_atoms next) (replaced_by T.items T.keys).1.keys
  tabled_next =
      let x = bytes.table-now s w room t z T S h w' H pushed F new v w''' D d E w4 M q w5 Z w6 moved in
      record {
        table = x.table;
        some = Z.some;
        narrower = Z.narrower;
        texts-are = texts-next;
        above = above_stays s w5 q.m w6 q.m q.at x Z.above;
        marks = marks_then;
      }

  -- ---- the definitions, and the items
  defines_then : DefinesMacros w6 room t q.m (round_atoms next) T.definitions
  defines_then =
      subst (λ (ts : List Text). DefinesMacros w6 room t q.m ts T.definitions) atoms_next
      (defines_next w w6 room t z.m q.m (round_atoms T) us T.definitions S.defines (bytes.long_now s w room t z T S h w' H pushed F new v w''' D d E w4 M q w5 Z w6 moved)
      (bytes.base_now s w room t z T S h w' H pushed F new v w''' D d E w4 M q w5 Z) (omega (arith, bytes.count-now s w room t z T S h w' H pushed F new v w''' D d E w4 M q w5 Z))
      (sym (places.texts-many s w room t z T S)) (omega (arith, places.base_first s w room t z T S, places.x_behind s w room t z T S, S.map.y_is))
      (omega (arith, S.map.end_is, S.map.inside)) S.grown.begins.macros-known (bytes.below s w room t z T S h w' H pushed F new v w''' D d E w4 M q w5 Z w6 moved)
      (bytes.between s w room t z T S h w' H pushed F new v w''' D d E w4 M q w5 Z w6 moved) (bytes.cells_now s w room t z T S h w' H pushed F new v w''' D d E w4 M q w5 Z w6 moved))

  old_next : Lies w6 room.y (bytes_of_each (item_bytes 2 (round_atoms next)) (T.old ++ replaced_of T)) r.to
  old_next =
      let l = halves.items_lie s w room t z T S h w' H in
      let e = bytes.long_now s w room t z T S h w' H pushed F new v w''' D d E w4 M q w5 Z w6 moved in
      let m = lies_agree w' w6 room.y r.to (bytes_of_each (item_bytes 2 (replaced_stage T).atoms) (T.old ++ replaced_of T)) (e ∙ sym (halves.wrote s w room t z T S h w' H).long)
      (omega (arith, halves.to_low s w room t z T S h w' H, places.low-is s w room t z T S, S.map.inside, (halves.wrote s w room t z T S h w' H).long))
      (λ i a b. bytes.kept s w room t z T S h w' H pushed F new v w''' D d E w4 M q w5 Z w6 moved i (omega (arith, S.map.y_is)) b) l in
      subst (λ (xs : List ℕ). Lies w6 room.y xs r.to)
      (sym (appended.before_same s w room t z T S h w' H pushed F new v w''' D) ∙ ap (λ (ts : List Text). bytes_of_each (item_bytes 2 ts) (T.old ++ replaced_of T)) atoms_next) m

  past_next : room.end ≡ q.at + length (bytes_of_each (atom_bytes 2) (T.past ++ us))
  unfolding new_bytes
  past_next = omega (arith, bytes.low_now s w room t z T S h w' H pushed F new v w''' D d E w4 M q w5 Z, places.low-is s w room t z T S, texts-both T.past us)

  end_is : v.to - r.to ≡ length new_items
  end_is = omega (arith, (appended.new_lie s w room t z T S h w' H pushed F new v w''' D d E).end)

  items_next : Lies w6 room.x (bytes_of_each (item_bytes 2 (round_atoms next)) new) (room.x + (v.to - r.to))
  items_next =
      let l = bytes.items_now s w room t z T S h w' H pushed F new v w''' D d E w4 M q w5 Z w6 moved in
      subst (λ (xs : List ℕ). Lies w6 room.x xs (room.x + (v.to - r.to))) (ap (λ (ts : List Text). bytes_of_each (item_bytes 2 ts) new) atoms_next)
      (subst (λ (n : ℕ). Lies w6 room.x new_items (room.x + n)) (sym end_is) l)

  nine : 9 ≤ length new_items
  nine =
      let k : 0 < length (pending_of T) = omega (arith, pushed, piles.pushed-is s w room t z T S h w' H pushed F) in
      omega (arith, expanded_fit (round_atoms T ++ us) new, drain-heads T.definitions (pending_of T) new k d)

  map_next : Mapped s (length w6) room q.m.base
  map_next =
      subst (λ (n : ℕ). Mapped s n room q.m.base) (sym (bytes.long_now s w room t z T S h w' H pushed F new v w''' D d E w4 M q w5 Z w6 moved))
      (subst (Mapped s (length w) room) (sym (bytes.base_now s w room t z T S h w' H pushed F new v w''' D d E w4 M q w5 Z)) S.map)

  -- theorem
  pub next_stands : Next s w6 room t after T new
  next_stands = record {
    more = us;
    atoms = appended.atoms_are s w room t z T S h w' H pushed F new v w''' D;
    standing = record {
      numbers = rw told (tally.tally_next s w room t z h w' H T S new d pushed us);
      map = map_next;
      first = S.first;
      grown = grown_next;
      tabled = tabled_next;
      defines = defines_then;
      stored = record { old_lie = old_next; past_fills = past_next };
      items_lie = items_next;
      long = omega (arith, nine, end_is);
      off = inr (omega arith, omega (arith, end_is, bytes.items_short s w room t z T S h w' H pushed F new v w''' D d E w4 M q w5 Z, S.map.y_is));
    };
  }
