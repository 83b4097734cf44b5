-- What resolving the levelled stage again comes to: the refusal is the call's, else the first round begins, and what the rounds come to is the call's. Assumes nothing.
use mathlib.Core.Path.{◌≡◌, refl, sym, ap, ◌∙◌, subst}
use mathlib.Core.Bool.{true, false, ◌&&◌}
use mathlib.Core.Logic.{◌⊎◌, inr}
use mathlib.Core.List.{List, [], ◌++◌}
use Prim.Native.Nat.{ℕ, ◌+◌, ◌-◌, ◌*◌, ◌/◌, ◌^◌, ◌≤◌, ◌<◌}
use native.Mathlib.Omega.{arith}
use lib.Dec.{leb, ltb}
use lib.ListN.{length, length-append, take}
use lib.Seq.{take_all}
use Rattle.parse_tree.specs.Plain.Tree.{Text, Item}
use Rattle.parse_tree.specs.Plain.References.{stage_of}
use Rattle.parse_tree.specs.Plain.WriteTape.{bytes_of_each}
use Rattle.parse_tree.specs.Working.Encode.{atom_bytes, item_bytes, stage_bytes}
use Rattle.parse_tree.specs.Working.Within.{Each, ItemWithin}
use Rattle.parse_tree.specs.Working.Refusals.{refusal_over}
use Rattle.parse_tree.specs.declared.refusal.Refusal.{Refusal}
use Rattle.parse_tree.proofs.TextLaws.{both, and_both}
use Rattle.texts.specs.declared.Map.{Map}
use Rattle.texts.specs.Table.{Above}
use Rattle.passes.specs.Outcome.{Tree, Outcome, yes, no, after}
use Rattle.passes.specs.Resolve.{globals, check_globals, resolve}
use Rattle.passes.specs.Levels.{levelled}
use Rattle.passes.specs.Macros.{without_macros}
use Rattle.passes.specs.Sizes.{each, item_fits, stage_fits}
use Rattle.passes.specs.Stages.{macro_stages}
use Rattle.passes.specs.Calls.{sizes, written}
use Rattle.passes.proofs.ResolveWithin.{resolve-alike}
use Rattle.passes.proofs.Outcomes.{after-yes}
use Rattle.passes.proofs.ResolveKeeps.{resolve-fits}
use Rattle.resolve.specs.declared.Grammar.{Grammar}
use Rattle.precedence.specs.Names.{named_texts}
use Rattle.levels.specs.declared.Room.{Room}
use Rattle.levels.specs.declared.Written.{Written}
use Rattle.levels.specs.Fresh.{new_texts}
use Rattle.levels.specs.Settle.{with_names, SettledNames}
use Rattle.rounds.specs.declared.Room as rounds-room
use Rattle.rounds.specs.Begins.{BeginsRound}
use Rattle.rounds.specs.Standing.{Mapped, GrownTrees}
use Rattle.again.specs.Whole.{AgainReady, AgainBy, AgainTo}
use Rattle.begins.proofs.LevelsWithin.{levelled-within}
use Rattle.begins.proofs.LevelsBegin.{levels-begin}
use Rattle.output.specs.Plain.Answers.{answer_of}
use Rattle.std.specs.Prelude.{Result, Ok, Err}
use Rattle.output.specs.Working.Handing.{Staged}
use Rattle.stages.specs.Levelling.{SomeLevels, SomeFitting}
use Rattle.stages.specs.Expanding.{macros_room, first_trees, FirstStands, RunStands, SomeRun, RunsTo}
use Rattle.stages.specs.Whole.{again_stages, whole_of}
use Rattle.stages.proofs.LevellingMeanTexts.{levelled-some}
use Rattle.stages.proofs.LevellingMeanSize.{split}
use Rattle.stages.proofs.ExpandingStart.{some_name}
use Rattle.stages.proofs.WholeMean.{whole_is, stage_fits_is, stage_size, stage_fine, atoms_are, at_size, room_at, room_to, low-is, texts-now, stands}

-- ---- 20 asks nothing new of items that are resolved
again_fits : (ts : List Text) (is G : Tree) → resolve is ≡ yes G → stage_fits 2 (record { atoms = ts; items = is }) ≡ true → stage_fits 2 (record { atoms = ts; items = G }) ≡ true
unfolding stage_fits resolve
again_fits ts is G p z =
    let y = both (leb (length ts) (256 ^ 2)) (each (λ (t : Text). ltb (length t) 65536) ts && each item_fits is) z in
    let x = both (each (λ (t : Text). ltb (length t) 65536) ts) (each item_fits is) y.1 in
    and_both (leb (length ts) (256 ^ 2)) (each (λ (t : Text). ltb (length t) 65536) ts && each item_fits G) y.0
    (and_both (each (λ (t : Text). ltb (length t) 65536) ts) (each item_fits G) x.0 (resolve-fits is is G (after-yes (check_globals [] (globals is)) _ G p).2 x.1))

module _ (s : List ℕ) (cap : ℕ) (m : Map) (at : ℕ) (room : Room) (v : Written) (w : List ℕ) (F : SomeFitting s cap m at room v w) (narrow : length w * 1 < 2 ^ 63) where
  abbrev L : SomeLevels s cap m at room v w
  L = F.levels

  abbrev ts : List Text
  ts = L.tape.atoms

  abbrev us : List Text
  us = named_texts s w m v.count

  abbrev news : List Text
  news = new_texts s w m v.count

  abbrev tree : Tree
  tree = levelled L.tree

  abbrev own : rounds-room.Room
  own = macros_room (length s) at cap

  abbrev x : ℕ
  x = 8 * length s + (5 * cap - 2 * (cap / 9))

  abbrev end : ℕ
  end = x + 2 * cap + (cap + 2 * (cap / 9))

  module _ (low : ℕ) (w₁ : List ℕ) (q : SettledNames s w m v.count end low w₁) where
    abbrev n : Map
    n = with_names m v.count

    module _ (y : Result Grammar Refusal) (w₂ : List ℕ) (p : AgainTo s w₁ (record { base = m.base; count = v.count; buckets = m.buckets }) 0 room.at v.to y w₂) where
      by_again : AgainBy s w₁ n 0 room.at v.to (resolve tree) y w₂
      unfolding AgainTo
      by_again = p tree (stands s cap m at room v w F narrow low w₁ q)

      is_refused : (t : Grammar) (why : Refusal) → Ok t ≡ Err why → ⊥
      is_refused t why e = let z : ◌≡◌ {A = ℕ} 0 1 = cc in omega arith

      -- theorem: a refusal is the call's
      pub whole_refused : (limit : ℕ) (o : List ℕ) (why : Refusal) → y ≡ Err why → Staged (whole_of s limit cap) o (Err why) o
      unfolding AgainBy again_stages answer_of written refusal_over
      whole_refused limit o why e = rw (whole_is s cap m at room v w F narrow limit) (go (resolve tree) by_again)
        where
          go : (z : Outcome Tree) → AgainBy s w₁ n 0 room.at v.to z y w₂ → Staged (after z (λ G. macro_stages (sizes 2 cap) limit (record { atoms = us; items = G }))) o (Err why) o
          go (yes G) k = absurd (is_refused k.0 why (sym k.1 ∙ e))
          go (no a sp) k = let z : why ≡ refusal_over a sp = cc in record { answered = rw z refl; tree = refl }

      module _ (t : Grammar) (e : y ≡ Ok t) where
        -- the items are resolved
        resolved : (G : Tree) × (resolve tree ≡ yes G) × AgainReady s w₁ n 0 room.at v.to G t w₂
        unfolding AgainBy
        resolved = go (resolve tree) refl by_again
          where
            go : (z : Outcome Tree) → resolve tree ≡ z → AgainBy s w₁ n 0 room.at v.to z y w₂ → (G : Tree) × (resolve tree ≡ yes G) × AgainReady s w₁ n 0 room.at v.to G t w₂
            go (no a sp) h k = absurd (is_refused t (refusal_over a sp) (sym e ∙ k))
            go (yes G) h k =
                let c : k.0 ≡ t = let d : Ok k.0 ≡ Ok t = sym k.1 ∙ e in cc in
                (G, h, subst (λ (u : Grammar). AgainReady s w₁ n 0 room.at v.to G u w₂) c k.2)

        abbrev G : Tree
        G = resolved.0

        ready : AgainReady s w₁ n 0 room.at v.to G t w₂
        ready = resolved.2

        again_is : resolve tree ≡ yes G
        again_is = resolved.1

        -- ---- what the first round begins with
        begins : (owed : ℕ) × BeginsRound 2 G [] (without_macros G) [] (stage_of ts tree).atoms news owed × (36 * owed ≤ cap)
        begins = levels-begin cap L.tape L.tree G news L.within L.is L.fine (stage_fine s cap m at room v w F narrow) again_is (atoms_are s cap m at room v w F narrow)

        within_now : Each (ItemWithin false 2 (ts ++ news)) G
        within_now = subst (λ (xs : List Text). Each (ItemWithin false 2 xs) G) (atoms_are s cap m at room v w F narrow) (levelled-within cap L.tape L.tree G L.within L.is L.fine (stage_fine s cap m at room v w F narrow) again_is).1

        same_size : length (bytes_of_each (item_bytes 2 us) G) ≡ length (bytes_of_each (item_bytes 2 us) tree)
        same_size =
            let k = resolve-alike false 2 us tree G again_is in
            let a : take (length tree) G ≡ G = take_all (length tree) G (omega (arith, k.many)) in
            let b : take (length tree) tree ≡ tree = take_all (length tree) tree (omega arith) in
            ap (λ (xs : List Item). length (bytes_of_each (item_bytes 2 us) xs)) (sym a) ∙ k.sizes (length tree) ∙ ap (λ (xs : List Item). length (bytes_of_each (item_bytes 2 us) xs)) b

        some_levels : 0 < length G
        some_levels = omega (arith, (resolve-alike false 2 us tree G again_is).many, levelled-some L.tree L.some)

        parts_now : (stage_fits 2 (record { atoms = us; items = G }) ≡ true) × (length (stage_bytes 2 (record { atoms = us; items = G })) ≤ cap)
        unfolding stage_bytes
        parts_now = (
          again_fits us tree G again_is (stage_fits_is s cap m at room v w F narrow),
          omega (arith, stage_size s cap m at room v w F narrow, same_size, length-append (bytes_of_each (atom_bytes 2) us) (bytes_of_each (item_bytes 2 us) G), length-append (bytes_of_each (atom_bytes 2) us) (bytes_of_each (item_bytes 2 us) tree)),
        )

        grown : GrownTrees cap (first_trees G ts news begins.0)
        grown =
            let e = split s cap m at room v w L in
            let name = some_name ts L.tree L.tree_within L.some in
            record {
              begins = subst (λ (xs : List Text). BeginsRound 2 G [] (without_macros G) [] xs news begins.0) (atoms_are s cap m at room v w F narrow) begins.1;
              within = within_now;
              fits = subst (λ (xs : List Text). stage_fits 2 (record { atoms = xs; items = G }) ≡ true) e parts_now.0;
              size = subst (λ (xs : List Text). length (stage_bytes 2 (record { atoms = xs; items = G })) ≤ cap) e parts_now.1;
              owed_cap = begins.2;
              name = name.0;
              named = name.1;
              long = name.2;
            }

        mapped : Mapped s (length w₂) own m.base
        unfolding macros_room
        mapped = record {
          items = length s - at;
          tape = omega (arith, L.inside);
          base_is = L.base;
          x_is = refl;
          y_is = refl;
          end_is = refl;
          inside = omega (arith, L.enough, q.long, ready.long);
          short = omega (arith, q.long, ready.long);
        }

        above_now : Above s w₂ n low
        above_now = record { above = λ i h. subst (λ (z : ℕ). (z < 4 * length s) ⊎ (low ≤ z + 4 * length s)) (sym (ready.marks i h)) (q.above.above i h) }

        first_stands : FirstStands s w₂ n t own low false G ts news begins.0
        unfolding macros_room
        first_stands = record {
          map = mapped;
          atoms = at_size s cap m at room v w F narrow;
          grown = grown;
          items = ready.items;
          buckets = L.wrote.names.naming.some;
          narrower = omega (arith, L.narrower, L.wrote.least);
          texts-are = ready.same ∙ (texts-now s cap m at room v w F narrow low w₁ q) ∙ split s cap m at room v w L;
          above = above_now;
          past_fills = sym (low-is s cap m at room v w F narrow low w₁ q);
          width = ready.width;
          some = some_levels;
          off = inr (omega (arith, ready.from, room_at s cap m at room v w F narrow), omega (arith, ready.upto, room_to s cap m at room v w F narrow));
        }

        runs : RunStands s w₂ cap (record { texts = n; grammar = t; at = at }) m.count own low false G ts news begins.0
        unfolding macros_room
        runs = record { stands = first_stands; many = L.many; inside = L.inside; atoms = L.atoms; cap_is = refl }

        -- theorem: the rounds can run
        pub whole_run : SomeRun s w₂ cap (record { texts = n; grammar = t; at = at }) m.count own low
        whole_run = record { four = false; tree = G; first = ts; past = news; owed = begins.0; stands = runs }

        -- theorem: and what they come to is the call's
        pub whole_done : (limit : ℕ) (o : List ℕ) → cap ≡ length o → (r : Result ℕ Refusal) (o' : List ℕ) → RunsTo s w₂ (record { texts = n; grammar = t; at = at }) m.count own low limit o r o' → Staged (whole_of s limit cap) o r o'
        unfolding RunsTo again_stages
        whole_done limit o l r o' d =
            let x = d false G ts news begins.0 (subst (λ (c : ℕ). RunStands s w₂ c (record { texts = n; grammar = t; at = at }) m.count own low false G ts news begins.0) l runs) in
            rw (whole_is s cap m at room v w F narrow limit, again_is)
            (subst (λ (xs : List Text). Staged (macro_stages (sizes 2 cap) limit (record { atoms = xs; items = G })) o r o') (sym (split s cap m at room v w L))
            (subst (λ (c : ℕ). Staged (macro_stages (sizes 2 c) limit (record { atoms = ts ++ news; items = G })) o r o') (sym l) x))
