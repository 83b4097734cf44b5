-- What stands in work after the replacing stage: replaced items, the texts by number, the pile; and the stage's size. Assumes nothing.
use mathlib.Core.Path.{◌≡◌, sym, ap, ◌∙◌, subst}
use mathlib.Core.Bool.{true}
use mathlib.Core.Logic.{inl, inr}
use mathlib.Core.List.{List, [], ◌++◌, map}
use Prim.Native.Nat.{ℕ, ◌+◌, ◌≤◌, ◌<◌}
use native.Mathlib.Omega.{arith}
use lib.Dec.{leb}
use lib.ListN.{length, get_or}
use Rattle.octets.specs.Plain.Runs.{Lies}
use Rattle.octets.proofs.LiesLaws.{lies_append}
use Rattle.parse_tree.specs.Plain.Tree.{Text}
use Rattle.parse_tree.specs.Plain.Texts.{has}
use Rattle.parse_tree.specs.Plain.References.{texts_of_each, item_texts, stage_of}
use Rattle.parse_tree.specs.Plain.WriteTape.{bytes_of_each}
use Rattle.parse_tree.specs.Working.Encode.{item_bytes}
use Rattle.texts.specs.declared.Map.{Map}
use Rattle.texts.specs.Fields.{cell_at}
use Rattle.texts.specs.Table.{texts}
use Rattle.passes.specs.Macros.{MacroExpander}
use Rattle.resolve.specs.declared.Grammar.{Grammar}
use Rattle.resolve.proofs.CellsLaws.{lies_agree}
use Rattle.replacing.specs.Sound.{Key}
use Rattle.replacing.proofs.Growing.{Extends, new_extends}
use Rattle.replacing.proofs.ThereBytes.{bytes_both, there_bytes_each}
use Rattle.expander.specs.declared.Ground.{Ground}
use Rattle.expander.specs.declared.stage.Replaced.{Replaced}
use Rattle.expander.specs.Stage.{MarksAre, WroteOnly}
use Rattle.expander.specs.Names.{listed_texts, named_in, Names}
use Rattle.expander.proofs.HeldStays.{around_wrote, wrote_same}
use Rattle.rounds.specs.declared.Room.{Room}
use Rattle.rounds.specs.declared.State.{State}
use Rattle.rounds.specs.declared.round.Half.{Half}
use Rattle.rounds.specs.Paid.{KeysKnown}
use Rattle.rounds.specs.Start.{Replacing}
use Rattle.rounds.specs.Standing.{RoundTrees, round_atoms, RoundStands}
use Rattle.rounds.specs.Round.{replaced_of, replaced_stage, Halfway}
use Rattle.rounds.proofs.PaidRounds.{together}
use Rattle.rounds.proofs.ReadyMeans.{stage_read}
use Rattle.rounds.proofs.StartMeans as starts
use Rattle.rounds.proofs.MarksMean.{marks_are}
use Rattle.rounds.proofs.RoundStages.{replaced_atoms}
use Rattle.rounds.proofs.RoundSize.{replaced_longer}
use Rattle.rounds.proofs.RoundPlaces as places
use Rattle.rounds.proofs.RoundGround as grounds

module _ (s w : List ℕ) (room : Room) (t : Grammar) (z : State) (T : RoundTrees) (S : RoundStands s w room t z T) (h : Half) (w' : List ℕ) (H : Halfway s w room t z h w') where
  abbrev g : Ground
  g = h.g

  abbrev r : Replaced
  r = h.r

  abbrev w₁ : List ℕ
  w₁ = H.middle

  -- ---- the keys met so far have marks
  texts-now : texts s w₁ g.m ≡ round_atoms T
  texts-now = grounds.texts-now s w room t z T S g w₁ H.grounds

  marks_now : (k : ℕ) → k < g.m.count → Key (get_or (texts s w₁ g.m) k []) → leb 2147483648 (cell_at w₁ g.m.base k) ≡ has (get_or (texts s w₁ g.m) k []) T.keys
  marks_now k l q =
      let e : cell_at w₁ g.m.base k ≡ cell_at w z.m.base k = (grounds.table-now s w room t z T S g w₁ H.grounds).cells k l ∙ ap (λ (m : Map). cell_at w m.base k) H.grounds.map in
      ap (leb 2147483648) e
      ∙ S.tabled.marks k (omega (arith, grounds.count-is s w room t z T S g w₁ H.grounds)) (subst (λ (ts : List Text). Key (get_or ts k [])) texts-now q)
      ∙ ap (λ (ts : List Text). has (get_or ts k []) T.keys) (sym texts-now)

  pub found : (ms : List ℕ) × MarksAre w₁ g ms × ((u : Text) → Key u → has u T.keys ≡ has u (map (λ k. get_or (texts s w₁ g.m) k []) ms))
  found = marks_are s w₁ g T.keys H.grounds.ground.distinct-texts (subst (λ (ts : List Text). KeysKnown ts T.keys) (sym texts-now) S.grown.begins.keys_known) marks_now

  -- theorem: what appending asks of replacing
  pub replacing : Replacing s w₁ g z.done r w' T.items T.keys found.0 T.definitions
  replacing =
      let u = stage_read s w₁ g T.items H.grounds.ground (grounds.items_now s w room t z T S g w₁ H.grounds) (grounds.within_now s w room t z T S g w₁ H.grounds) in
      record {
        ground = H.grounds.ground;
        stages = H.stages;
        top = grounds.top_before s w room t z T S g w₁ H.grounds;
        items = grounds.items_before s w room t z T S g w₁ H.grounds;
        bytes = H.bytes;
        many = u.0;
        read = u.1;
        marks = found.1;
        keys = found.2;
        sound = S.grown.begins.fresh_sound;
        calls = S.grown.begins.fresh_call;
      }

  -- ---- the texts by number
  abbrev pub places_of : List ℕ
  places_of = starts.places s w₁ g z.done r w' T.items T.keys found.0 T.definitions replacing

  pub names : Names s w' g r.pile r.count places_of
  names = starts.names s w₁ g z.done r w' T.items T.keys found.0 T.definitions replacing

  pub texts-then : texts s w' g.m ≡ round_atoms T
  texts-then = sym (starts.texts-read s w₁ g z.done r w' T.items T.keys found.0 T.definitions replacing) ∙ texts-now

  pub named : named_in s w' g r.count ≡ (replaced_stage T).atoms
  named =
      starts.named-is s w₁ g z.done r w' T.items T.keys found.0 T.definitions replacing
      ∙ ap (λ (ts : List Text). (stage_of ts (replaced_of T)).atoms) texts-now
      ∙ sym (replaced_atoms (round_atoms T) T.old (replaced_of T) S.grown.begins.old_known)

  -- the texts that come with the stage
  abbrev pub new_texts : List Text
  new_texts = listed_texts s w' g r.count

  pub atoms_are : (replaced_stage T).atoms ≡ round_atoms T ++ new_texts
  unfolding named_in
  atoms_are = sym named ∙ ap (λ (ts : List Text). ts ++ new_texts) texts-then

  -- ---- what was written
  pub wrote : WroteOnly g z.done r.to w w'
  wrote =
      wrote_same g z.done r.to w w₁ w'
      (around_wrote g z.done r.to w w₁ (grounds.top_before s w room t z T S g w₁ H.grounds) (omega (arith, (H.stages.each found.0 found.1).lies.end)) (grounds.around s w room t z T S g w₁ H.grounds))
      H.stages.wrote

  pub replaced_lie : Lies w' z.done (bytes_of_each (item_bytes 2 (replaced_stage T).atoms) (replaced_of T)) r.to
  replaced_lie =
      let l = (H.stages.each found.0 found.1).lies in
      let e = (starts.round s w₁ g z.done r w' T.items T.keys found.0 T.definitions replacing).items in
      let f : (stage_of (texts s w₁ g.m) (replaced_of T)).atoms ≡ (replaced_stage T).atoms =
      ap (λ (ts : List Text). (stage_of ts (replaced_of T)).atoms) texts-now ∙ sym (replaced_atoms (round_atoms T) T.old (replaced_of T) S.grown.begins.old_known) in
      subst (λ (xs : List ℕ). Lies w' z.done xs r.to)
      (e ∙ ap (λ (wd : ℕ). bytes_of_each (item_bytes wd (stage_of (texts s w₁ g.m) (replaced_of T)).atoms) (replaced_of T)) (grounds.width_is s w room t z T S g w₁ H.grounds)
      ∙ ap (λ (ts : List Text). bytes_of_each (item_bytes 2 ts) (replaced_of T)) f) l

  -- ---- sizes
  abbrev pub replaced_size : ℕ
  replaced_size = length (bytes_of_each (item_bytes 2 (replaced_stage T).atoms) (replaced_of T))

  pub to_is : r.to ≡ z.done + replaced_size
  to_is = replaced_lie.end

  pub to_low : r.to ≤ z.low
  to_low =
      let σ : MacroExpander = record { keys = T.keys; pile = [] } in
      omega (
        arith,
        to_is,
        replaced_longer (round_atoms T) (replaced_stage T).atoms T.items σ,
        places.done_is s w room t z T S,
        places.low_place s w room t z T S,
        places.sizes-fit s w room t z T S,
      )

  extends : Extends (round_atoms T) (replaced_stage T).atoms
  unfolding stage_of
  extends = new_extends (round_atoms T) (texts_of_each item_texts (T.old ++ replaced_of T))

  pub old_same : bytes_of_each (item_bytes 2 (replaced_stage T).atoms) T.old ≡ bytes_of_each (item_bytes 2 (round_atoms T)) T.old
  old_same = there_bytes_each 2 (round_atoms T) (replaced_stage T).atoms extends T.old (together (λ (u : Text). has u (round_atoms T) ≡ true) T.old S.grown.begins.old_known)

  old_then : Lies w' room.y (bytes_of_each (item_bytes 2 (round_atoms T)) T.old) z.done
  old_then =
      lies_agree w w' room.y z.done (bytes_of_each (item_bytes 2 (round_atoms T)) T.old) wrote.long
      (omega (arith, to_low, to_is, places.low-is s w room t z T S, places.end_inside s w room t z T S))
      (λ i a b. wrote.others i (inr (inl (omega (arith, grounds.top_is s w room t z T S g w₁ H.grounds, places.y_is s w room t z T S), b)))) S.stored.old_lie

  -- theorem: all replaced items stand one behind another
  pub items_lie : Lies w' room.y (bytes_of_each (item_bytes 2 (replaced_stage T).atoms) (T.old ++ replaced_of T)) r.to
  items_lie =
      subst (λ (xs : List ℕ). Lies w' room.y xs r.to)
      (ap (λ (xs : List ℕ). xs ++ bytes_of_each (item_bytes 2 (replaced_stage T).atoms) (replaced_of T)) (sym old_same) ∙ sym (bytes_both (item_bytes 2 (replaced_stage T).atoms) T.old (replaced_of T)))
      (lies_append old_then replaced_lie)
