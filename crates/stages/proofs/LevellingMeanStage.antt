-- The levelled stage of an admitted tape: where it is the resolved one, and where it is refused. Assumes nothing.
use mathlib.Core.Path.{◌≡◌, refl, sym, ap, ◌∙◌}
use mathlib.Core.Bool.{true}
use mathlib.Core.List.{List, [], ◌∷◌}
use Prim.Native.Nat.{ℕ, ◌+◌, ◌-◌, ◌*◌, ◌/◌, ◌^◌, ◌≤◌, ◌<◌}
use native.Mathlib.Omega.{arith}
use lib.ListN.{length}
use Rattle.octets.proofs.PartLaws.{part_length}
use Rattle.parse_tree.specs.Plain.Tree.{Stage}
use Rattle.parse_tree.specs.Plain.Texts.{distinct}
use Rattle.parse_tree.specs.Plain.References.{stage_of}
use Rattle.parse_tree.specs.Plain.WriteTape.{bytes_of_each}
use Rattle.parse_tree.specs.Working.Encode.{atom_bytes, item_bytes}
use Rattle.parse_tree.specs.Working.Refusals.{refusal_over}
use Rattle.parse_tree.specs.declared.refusal.Refusal.{Refusal}
use Rattle.texts.specs.declared.Map.{Map}
use Rattle.passes.specs.Outcome.{Tree, Outcome, yes, no, after}
use Rattle.passes.specs.Levels.{levelled, check_levels, levels}
use Rattle.passes.specs.Stages.{level_stage}
use Rattle.passes.specs.Calls.{sizes, written}
use Rattle.resolve.specs.declared.Grammar.{Grammar}
use Rattle.grades.specs.Ids.{ids_in}
use Rattle.levels.specs.declared.Room.{Room}
use Rattle.levels.specs.declared.Written.{Written}
use Rattle.levels.specs.Expand.{LevelsFit, Wrote}
use Rattle.levels.specs.Whole.{alternatives_in, GrammarStands, SomeGrammar, LevelledBy, Levels}
use Rattle.output.specs.Plain.Answers.{answer_of}
use Rattle.std.specs.Prelude.{Result, Ok, Err}
use Rattle.output.specs.Working.Judging.{room_of}
use Rattle.output.specs.Working.Handing.{Staged}
use Rattle.stages.specs.Stages.{resolved}
use Rattle.stages.specs.Levelling.{levelled_of, SomeAdmitted, SomeLevels}
use Rattle.stages.proofs.StoodMean.{said_yes}
use Rattle.validate.proofs.TapeLaws.{atoms_long}
use Rattle.stages.proofs.LevelableMean.{items_named}
use Rattle.stages.proofs.LevellingMeanFew.{alternatives_few, names_most}

-- ---- a refusal of the resolved stage is the answer
pub staged_no : (x : Outcome Stage) (f : Stage → Outcome Stage) (o : List ℕ) (why : Refusal) → Staged x o (Err why) o → Staged (after x f) o (Err why) o
unfolding answer_of
staged_no (yes g) f o why h = absurd (let e = h.answered in let z : ◌≡◌ {A = ℕ} 0 1 = cc in omega arith)
staged_no (no q p) f o why h = h

pub none_of : (R : Tree) → 0 ≡ length R → R ≡ []
none_of [] e = refl
none_of (x ∷ xs) e = absurd (omega arith)

-- ---- where the resolved stage is admitted
module _ (s : List ℕ) (cap : ℕ) (m : Map) (t : Grammar) (at : ℕ) (w : List ℕ) (a : SomeAdmitted s cap m t at w) where
  pub admitted-is : resolved s cap ≡ yes (record { atoms = a.stood.tape.atoms; items = a.stood.tree })
  admitted-is = said_yes s w m t at a.stood a.few cap a.fits

  pub levelled-is : levelled_of s cap ≡ level_stage (sizes 2 cap) (record { atoms = a.stood.tape.atoms; items = a.stood.tree })
  unfolding levelled_of
  levelled-is = rw admitted-is refl

  -- ---- the room: at least 11 bytes of items and 3 of an atom
  module _ (some : 0 < t.count) (room : Room) (r : room ≡ room_of (length s) (length s - at) cap) (narrow : length w * 1 < 2 ^ 63) where
    abbrev A : ℕ
    A = alternatives_in a.stood.tree

    items_size_lem : length s - at ≡ length (bytes_of_each (item_bytes 2 a.stood.tape.atoms) a.stood.tree)
    items_size_lem = omega (arith, a.stood.room, part_length t.at (t.at + (length s - at)) w a.stood.room, ap length a.stood.items)

    atoms_size : at ≡ length (bytes_of_each (atom_bytes 2) a.stood.tape.atoms)
    atoms_size = omega (arith, part_length 0 at s a.stood.inside, ap length a.stood.atoms)

    few_bytes : 16 * A + 11 ≤ length s - at
    few_bytes = omega (arith, items_size_lem, alternatives_few a.stood.tape.atoms a.stood.tree, a.stood.levels.many)

    some_atoms : 3 ≤ at
    some_atoms = omega (arith, atoms_size, atoms_long a.stood.tape.atoms, items_named a.stood.tape.atoms a.stood.tree a.stood.levels.within (omega (arith, a.stood.levels.many)))

    arrays_is : room.arrays ≡ 8 * length s + 2 * (length s - at)
    unfolding room_of
    arrays_is = ap (λ (u : Room). u.arrays) r

    at-is : room.at ≡ 8 * length s + 6 * cap - 2 * (cap / 9)
    unfolding room_of
    at-is = ap (λ (u : Room). u.at) r

    lim_is : room.lim ≡ 8 * length s + 6 * cap - 2 * (cap / 9) + cap
    unfolding room_of
    lim_is = ap (λ (u : Room). u.lim) r

    -- theorem: names, arrays and items have room
    pub laid : LevelsFit m room (m.count + A) A (length w)
    laid =
        let b = few_bytes in
        let c = some_atoms in
        let e = arrays_is in
        let f = at-is in
        let g = lim_is in
        record {
          heads = omega (arith, a.stood.levels.heads);
          names = omega (arith, a.stood.levels.records);
          few = omega (arith, a.stood.many, names_most a.stood.tape a.stood.tree a.stood.is a.stood.within (omega (arith, a.stood.many, a.few)));
          arrays = omega (arith, a.stood.inside, a.fits);
          ordered = omega arith;
          inside = omega (arith, a.stood.inside, a.fits, a.enough);
          narrow = omega arith;
        }

    -- theorem: the resolved grammar stands there
    pub grammar_stands : GrammarStands s m t room w true a.stood.tree
    grammar_stands =
        let e = a.stood.levels.texts-are in
        record {
          laid = laid;
          before = a.stood.levels.before some;
          table = a.stood.levels.table;
          above = a.stood.levels.on_tape (room.lim + 16);
          some = a.stood.levels.some (omega (arith, a.stood.levels.many));
          few = omega (arith, a.few);
          apart = ap distinct e ∙ a.stood.within.apart;
          row = rw e a.stood.levels.row;
          within = rw (e, a.stood.levels.width) a.stood.levels.within;
          many = a.stood.levels.many;
        }

    pub some_grammar : SomeGrammar s m t room w
    some_grammar = record { four = true; items = a.stood.tree; stands = grammar_stands }

    -- ---- what the pass answered, and left
    module _ (x : Result Written Refusal) (w' : List ℕ) (p : Levels s m t room w x w') where
      by_levels_lem : LevelledBy s m t room (check_levels a.stood.tree) w a.stood.tree x w'
      unfolding Levels
      by_levels_lem = p true a.stood.tree grammar_stands

      is_refused : (v : Written) (why : Refusal) → Ok v ≡ Err why → ⊥
      is_refused v why e = let z : ◌≡◌ {A = ℕ} 0 1 = cc in omega arith

      -- theorem: a refusal is the stage's
      pub levels-refused : (o : List ℕ) (why : Refusal) → x ≡ Err why → Staged (levelled_of s cap) o (Err why) o
      unfolding LevelledBy level_stage levels answer_of written refusal_over
      levels-refused o why e = rw levelled-is (go (check_levels a.stood.tree) by_levels_lem)
        where
          go : (z : Outcome (Unit {0})) → LevelledBy s m t room z w a.stood.tree x w'
              → Staged (after (after z (λ u. yes (levelled a.stood.tree))) (λ L. sizes 2 cap (stage_of a.stood.tape.atoms L))) o (Err why) o
          go (yes u) k = absurd (is_refused k.0 why (sym k.1 ∙ e))
          go (no q sp) k = let z : why ≡ refusal_over q sp = cc in record { answered = rw z refl; tree = refl }

      -- theorem: and a yes leaves the levels
      pub levels-written : (v : Written) → x ≡ Ok v → SomeLevels s cap m at room v w'
      unfolding LevelledBy
      levels-written v e = go (check_levels a.stood.tree) refl by_levels_lem
        where
          go : (z : Outcome (Unit {0})) → check_levels a.stood.tree ≡ z → LevelledBy s m t room z w a.stood.tree x w' → SomeLevels s cap m at room v w'
          go (no q sp) h k = absurd (is_refused v (refusal_over q sp) (sym e ∙ k))
          go (yes u) h k =
              let c : k.0 ≡ v = let d : Ok k.0 ≡ Ok v = sym k.1 ∙ e in cc in
              let b : Wrote s m room 2 (ids_in a.stood.tape.atoms) w (record { to = room.at; count = m.count }) A (levelled a.stood.tree) v w' = rw (← c, ← a.stood.levels.width, ← a.stood.levels.texts-are) k.2 in
              record {
                tape = a.stood.tape;
                tree = a.stood.tree;
                admitted = admitted-is;
                fine = h;
                is = a.stood.is;
                within = a.stood.within;
                many = a.stood.many;
                inside = a.stood.inside;
                atoms = a.stood.atoms;
                tree_within = a.stood.levels.within;
                some = omega (arith, a.stood.levels.many);
                room_is = r;
                fits = a.fits;
                enough = omega (arith, b.long, a.enough);
                before = w;
                texts-are = a.stood.levels.texts-are;
                on_tape = a.stood.levels.on_tape;
                narrower = a.stood.levels.narrower;
                base = a.stood.levels.base;
                records = a.stood.levels.records;
                size = sym items_size_lem;
                wrote = b;
              }
