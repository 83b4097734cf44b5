-- Questions 20 and 21 of the replacing stage, and what stands in work where it is the last. Assumes nothing.
use mathlib.Core.Path.{◌≡◌, refl, sym, ap, ◌∙◌, subst}
use mathlib.Core.Bool.{Bool, true, false, ◌&&◌, false≢true}
use mathlib.Core.List.{List, [], ◌∷◌, ◌++◌, append-nil}
use Prim.Native.Nat.{ℕ, zero, suc, ◌+◌, ◌-◌, ◌*◌, ◌/◌, ◌^◌, ◌≤◌, ◌<◌}
use native.Mathlib.Omega.{arith}
use lib.Dec.{ltb}
use lib.ListN.{length, length-append}
use Rattle.parse_tree.specs.Plain.Tree.{Text, Item, item}
use Rattle.parse_tree.specs.Plain.References.{stage_of}
use Rattle.parse_tree.specs.Plain.WriteTape.{bytes_of_each}
use Rattle.parse_tree.specs.Working.Encode.{atom_bytes, item_bytes}
use Rattle.texts.specs.Atoms.{some_long}
use Rattle.texts.specs.Table.{Table, texts}
use Rattle.passes.specs.Macros.{MacroExpander, without_macros}
use Rattle.passes.specs.Sizes.{each, item_fits}
use Rattle.passes.specs.Calls.{sizes}
use Rattle.resolve.specs.declared.Grammar.{Grammar}
use Rattle.expander.specs.declared.Ground.{Ground}
use Rattle.expander.specs.declared.stage.Replaced.{Replaced}
use Rattle.expander.specs.Ground.{list_at}
use Rattle.expander.specs.Names.{described_by, listed_texts}
use Rattle.settling.specs.Settle.{new_bytes}
use Rattle.rounds.specs.declared.Room.{Room}
use Rattle.rounds.specs.declared.State.{State}
use Rattle.rounds.specs.declared.round.Half.{Half}
use Rattle.rounds.specs.Judge.{verdict, admitted, SomeStageSize}
use Rattle.rounds.specs.Standing.{RoundTrees, round_atoms, stage_before, RoundStands}
use Rattle.rounds.specs.Round.{replaced_of, replaced_stage, Halfway, Fine, Finished}
use Rattle.rounds.proofs.JudgeMeans.{each_two}
use Rattle.rounds.proofs.KeptMeans.{replaced_fit}
use Rattle.rounds.proofs.PaidKeeps.{texts-both}
use Rattle.rounds.proofs.StartMeans as starts
use Rattle.rounds.proofs.RoundStages.{judged-only, fits_parts}
use Rattle.rounds.proofs.RoundPlaces as places
use Rattle.rounds.proofs.RoundGround as grounds
use Rattle.rounds.proofs.RoundHalf as halves

-- ---- tests on lists
both_yes : (a b : Bool) → a && b ≡ true → (a ≡ true) × (b ≡ true)
both_yes true b e = (refl, e)
both_yes false b e = absurd (false≢true e)

pub each-parts : {A : Type 0} (f : A → Bool) (xs ys : List A) → each f (xs ++ ys) ≡ true → (each f xs ≡ true) × (each f ys ≡ true)
each-parts f xs ys e = both_yes (each f xs) (each f ys) (sym (each_two f xs ys) ∙ e)

pub each-joined : {A : Type 0} (f : A → Bool) (xs ys : List A) → each f xs ≡ true → each f ys ≡ true → each f (xs ++ ys) ≡ true
each-joined f xs ys a b = each_two f xs ys ∙ rw (a, b) refl

without_fit : (is : List Item) → each item_fits is ≡ true → each item_fits (without_macros is) ≡ true
without_fit [] e = refl
without_fit (item d ∷ is) e = let (a, b) = both_yes (item_fits (item d)) (each item_fits is) e in go d.args a (without_fit is b)
  where
    go : (ps : List Text) → item_fits (item d) ≡ true → each item_fits (without_macros is) ≡ true → each item_fits (elim ps [ [] ↦ item d ∷ without_macros is | p ∷ qs ↦ without_macros is ]) ≡ true
    go [] a b = rw (a, b) refl
    go (p ∷ ps) a b = b
without_fit (Item.terminal s o t ∷ is) e = without_fit is e

pub listed-many : (s w : List ℕ) (g : Ground) (c : ℕ) → length (listed_texts s w g c) ≡ c
unfolding listed_texts
listed-many s w g zero = refl
listed-many s w g (suc c) = omega (arith, listed-many s w g c, length-append (listed_texts s w g c) (described_by s w g (list_at w g c) ∷ []))

-- a sum far below half of what a number holds
pub counted_small : (first end low to y c past n : ℕ) → 8 * (first + c) ≤ n → n < 256 ^ 8 → to ≤ low → y ≤ to → low + past ≡ y + (c + 2 * (c / 9)) → end ≡ low + past → first + (end - low) + (to - y) < 9223372036854775808
counted_small first end low to y c past n a b d f e i = omega arith

module _ (s w : List ℕ) (room : Room) (t : Grammar) (z : State) (T : RoundTrees) (S : RoundStands s w room t z T) (h : Half) (w' : List ℕ) (H : Halfway s w room t z h w') where
  abbrev g : Ground
  g = h.g

  abbrev r : Replaced
  r = h.r

  abbrev new_texts : List Text
  new_texts = listed_texts s w' g r.count

  -- the bytes that the code counts, but the new texts'
  abbrev pub counted_half : ℕ
  counted_half = room.first + (room.end - z.low) + (r.to - room.y)

  pub old_fits : each item_fits (T.old ++ replaced_of T) ≡ true
  old_fits =
      let σ : MacroExpander = record { keys = T.keys; pile = [] } in
      let (a, b) = each-parts item_fits T.old T.items (fits_parts (stage_before T) S.grown.fits).2 in
      each-joined item_fits T.old (replaced_of T) a (replaced_fit (without_macros T.items) σ (without_fit T.items b))

  pub shorts : each (λ (u : Text). ltb (length u) 65536) (round_atoms T) ≡ true
  shorts = (fits_parts (stage_before T) S.grown.fits).1

  pub counted_half_lem : counted_half ≡ length (bytes_of_each (atom_bytes 2) (round_atoms T)) + length (bytes_of_each (item_bytes 2 (replaced_stage T).atoms) (T.old ++ replaced_of T))
  counted_half_lem = omega (arith, S.first, texts-both T.first T.past, places.low-is s w room t z T S, (halves.items_lie s w room t z T S h w' H).end)

  pub count-half : g.m.count + r.count ≡ length (round_atoms T) + length new_texts
  count-half = omega (arith, grounds.count-is s w room t z T S g H.middle H.grounds, places.texts-many s w room t z T S, listed-many s w' g r.count)

  -- theorem: what `sizes` says of the replacing stage
  pub judged-half : sizes 2 room.cap (replaced_stage T) ≡ admitted (verdict (g.m.count + r.count) (some_long new_texts) false (counted_half + length (new_bytes s w' g r.count)) room.cap) (replaced_stage T)
  unfolding new_bytes
  judged-half =
      judged-only room.cap (round_atoms T) new_texts (T.old ++ replaced_of T) (halves.atoms_are s w room t z T S h w' H) shorts old_fits counted_half
      (counted_half_lem ∙ ap (λ (ts : List Text). length (bytes_of_each (atom_bytes 2) (round_atoms T)) + length (bytes_of_each (item_bytes 2 ts) (T.old ++ replaced_of T))) (halves.atoms_are s w room t z T S h w' H))
      ∙ ap (λ (n : ℕ). admitted (verdict n (some_long new_texts) false (counted_half + length (bytes_of_each (atom_bytes 2) new_texts)) room.cap) (replaced_stage T)) (sym count-half)

  -- ---- asking it
  pub work_long : 8 * (room.first + room.cap) ≤ length w
  work_long = omega (arith, S.map.x_is, S.map.y_is, S.map.end_is, S.map.inside, S.map.tape)

  small_half : counted_half < 9223372036854775808
  small_half =
      counted_small room.first room.end z.low r.to room.y room.cap (places.past_size s w room t z T S) (length w) work_long S.map.short (halves.to_low s w room t z T S h w' H)
      (omega (arith, (halves.items_lie s w room t z T S h w' H).end)) (places.low_place s w room t z T S) (places.low-is s w room t z T S)

  -- theorem: it can be asked
  pub ask_half : SomeStageSize s w' g r.pile r.count counted_half
  ask_half = record { places = halves.places_of s w room t z T S h w' H; ground = H.stages.ground; names = halves.names s w room t z T S h w' H; small = small_half }

  -- ---- the last stage
  none_new : r.pile ≡ 0 → r.count ≡ 0
  none_new e = go r.count refl
    where
      go : (c : ℕ) → r.count ≡ c → c ≡ 0
      go zero f = refl
      go (suc c) f =
          let l = (starts.held s H.middle g z.done r w' T.items T.keys (halves.found s w room t z T S h w' H).0 T.definitions (halves.replacing s w room t z T S h w' H)).entries 0 (omega (arith, f)) in
          absurd (omega (arith, l.1, e))

  no_texts : r.pile ≡ 0 → new_texts ≡ []
  unfolding listed_texts
  no_texts e = ap (listed_texts s w' g) (none_new e)

  -- theorem: with nothing pending it stands in work as it is handed over
  pub last-stands : r.pile ≡ 0 → Fine room (replaced_stage T) → Finished s w' room (record { expander = h.expander; m = z.m; from = z.from; end = z.end; done = r.to; low = z.low }) T.first (replaced_stage T)
  unfolding stage_of
  last-stands e f =
      let a : (replaced_stage T).atoms ≡ round_atoms T = halves.atoms_are s w room t z T S h w' H ∙ ap (λ (us : List Text). round_atoms T ++ us) (no_texts e) ∙ append-nil (round_atoms T) in
      record {
        past = T.past;
        atoms = a;
        table = subst (Table s w') H.grounds.map H.stages.ground.table;
        texts-are = ap (texts s w') (sym H.grounds.map) ∙ halves.texts-then s w room t z T S h w' H ∙ sym a;
        past_fills = S.stored.past_fills;
        items_lie = halves.items_lie s w room t z T S h w' H;
        fits = f;
      }
