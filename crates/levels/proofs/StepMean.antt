-- One level of a nonterminal whose keys are sorted: where its keys end, what it is named, and that its item can be written. Assumes nothing.
use mathlib.Core.Path.{◌≡◌, refl, sym, ap, ◌∙◌}
use mathlib.Core.Bool.{Bool, false}
use mathlib.Core.Logic.{inl}
use mathlib.Core.List.{List, [], ◌∷◌}
use mathlib.Core.Option.{Option, none, some}
use Prim.Native.Nat.{ℕ, zero, suc, ◌+◌, ◌-◌, ◌*◌, ◌/◌, ◌≤◌, ◌<◌}
use native.Mathlib.Omega.{arith}
use borrow.Author.Tests.{eqb-true, eqb-false}
use lib.Dec.{eqb}
use lib.ListN.{length, get_or}
use Rattle.std.specs.Prelude.{Option as Maybe, Some, unwrap_or}
use mir.Syntax.{w8}
use mir.Val as Bound
use Rattle.octets.specs.Plain.Numbers.{le_at}
use Rattle.octets.specs.Plain.Runs.{Lies}
use Rattle.parse_tree.specs.Plain.Tree.{Text, Alternative, Nonterminal, item}
use Rattle.parse_tree.specs.Plain.Texts.{is_name, number}
use Rattle.parse_tree.specs.Plain.WriteTape.{bytes_of_each}
use Rattle.parse_tree.specs.Working.Encode.{item_bytes, argument_bytes, alternative_bytes}
use Rattle.parse_tree.specs.Working.Within.{Each, Uses, AlternativeWithin, NonterminalWithin}
use Rattle.texts.specs.declared.Map.{Map}
use Rattle.texts.specs.Table.{texts}
use Rattle.texts.proofs.TableStays.{le_at-agree}
use Rattle.passes.specs.Grades.{Graded, all, graded}
use Rattle.passes.specs.Levels.{Group, level_name, of_level}
use Rattle.laws.specs.Sort.{level_keys, by_levels}
use Rattle.grades.specs.Key.{code_of}
use Rattle.replacing.proofs.Growing.{Extends, extends_trans, extends_number, new_extends}
use Rattle.resolve.proofs.CellsLaws.{lies_agree}
use Rattle.resolve.proofs.GrammarLaws.{Headed, headed}
use Rattle.grades.specs.declared.Ids.{Ids}
use Rattle.grades.specs.Sort.{keys_at, level_at, GroupEnd}
use Rattle.grades.proofs.AlternativesStored.{places_from}
use Rattle.precedence.specs.declared.level.Level.{Level}
use Rattle.precedence.specs.declared.names.LevelName.{LevelName}
use Rattle.precedence.specs.Names.{Describing, named_texts}
use Rattle.precedence.specs.Write.{Puts}
use Rattle.precedence.specs.Level.{LevelInside, PutsLevel}
use Rattle.precedence.proofs.GroupMean.{GroupSplit, group_split}
use Rattle.precedence.proofs.LeadMean.{graded-many, keys_lead, keys_noted}
use Rattle.precedence.proofs.LevelKeysMean.{KeysMean}
use Rattle.precedence.proofs.LevelWholeMean.{LevelOf, ArraysOf, lower_number, lower_or_own, level_inside, level_means}
use Rattle.levels.specs.declared.Room.{Room}
use Rattle.levels.specs.declared.Written.{Written}
use Rattle.levels.specs.Expand.{NamesLevel, places_of, alternatives_at, LowerIs, level_item, Left}
use Rattle.levels.proofs.Extend.{bytes_each, bytes_extend, nonterminal_within_extend, alternative_extend, argument-extend}
use Rattle.levels.proofs.StepMeanNames.{named-extends, number-in_table, LevelKnown, level_known}

-- ---- keys and places
-- theorem: keys whose bytes are as they were
pub keys_agree : (w w1 : List ℕ) (at n : ℕ) → ((i : ℕ) → at ≤ i → i < at + 8 * n → get_or w1 i 0 ≡ get_or w i 0) → keys_at w1 at n ≡ keys_at w at n
unfolding keys_at
keys_agree w w1 at zero f = refl
keys_agree w w1 at (suc n) f = cc (le_at-agree 8 w w1 at (λ i h k. f i h (omega arith)), keys_agree w w1 (at + 8) n (λ i h k. f i (omega arith) (omega arith)))

no_keys : (w : List ℕ) (at k : ℕ) → keys_at w at k ≡ [] → k ≡ 0
unfolding keys_at
no_keys w at zero h = refl
no_keys w at (suc k) h = absurd (omega (arith, ap length h))

-- theorem: where keys are left, a level is
pub some_level : (w : List ℕ) (keys n i : ℕ) (gs : List Graded) → i < n → keys_at w (keys + 8 * i) (n - i) ≡ by_levels code_of [] 0 gs → ⊥
unfolding by_levels
some_level w keys n i gs h k = absurd (omega (arith, no_keys w (keys + 8 * i) (n - i) k))

some_above : (vs : List ℕ) → (vs ≡ [] → ⊥) → 1 ≤ length vs
some_above [] h = absurd (h refl)
some_above (u ∷ us) h = omega arith

-- the places by the numbers of more texts
places-extend : (four : Bool) (wd : ℕ) (ts us : List Text) → Extends ts us → (s : List ℕ) (m : Map) (places keys n e p : ℕ) (cs : List Alternative) → Each (AlternativeWithin four wd ts) cs
    → places_of wd ts p cs ≡ places_from four wd us s m places keys n e p cs
unfolding places_of places_from
places-extend four wd ts us x s m places keys n e p [] h = refl
places-extend four wd ts us x s m places keys n e p (c ∷ cs) h =
    let z = alternative_extend four wd ts us x c h.0 in
    ap (λ (l : List ℕ). p ∷ l)
    (places-extend four wd ts us x s m places keys n e (p + length (alternative_bytes wd ts c)) cs h.1 ∙ ap (λ (b : List ℕ). places_from four wd us s m places keys n e (p + length b) cs) (sym z))

-- ---- a level
module _ (s : List ℕ) (m : Map) (room : Room) (wd : ℕ) (ids : Ids) (p e places keys n i : ℕ) (below : Maybe ℕ) (v : Written) (w : List ℕ) (four : Bool) (d : Nonterminal) (o : Option Text) (v0 : ℕ) (above : List ℕ)
    (L : Left s m room wd ids p e places keys n i below v w four d o (v0 ∷ above)) where
  -- theorem: the name that is read is the nonterminal's
  pub base_is : le_at wd w (p + 9) ≡ number (texts s w m) d.name
  base_is = (headed four w wd (texts s w m) p d e L.stood.within L.stood.lies).name

  -- theorem: it stands before the arrays, and those before the items
  pub before-arrays : (e ≤ room.arrays) × (room.arrays ≤ room.at) × (room.at + 16 ≤ length w)
  before-arrays =
      let a = L.laid in
      (omega (arith, L.stood.before, a.heads), omega (arith, a.arrays), omega (arith, a.ordered, a.inside))

  few : length (graded d) ≤ 65536
  few = omega (arith, graded-many d.alternatives 0 all, L.stood.within.fewer)

  module _ (j : ℕ) (g : GroupEnd w keys n i j) where
    -- theorem: the keys up to j are those of the first level left
    pub group_is : GroupSplit w keys n i (graded d) v0 above j
    group_is = group_split w keys n i (graded d) v0 above few L.ascends L.some L.below-n L.keyed j g

    level_is : le_at 8 w (keys + 8 * i) / 262144 ≡ v0
    unfolding level_at
    level_is = group_is.level

    -- theorem: where it isn't the highest, its name can be described
    pub step-describing : eqb j n ≡ false → Describing s w m v.count (le_at wd w (p + 9)) (le_at 8 w (keys + 8 * i) / 262144)
    step-describing other =
        let a = L.laid in
        let b = before-arrays in
        let c = base_is in
        let z = level_is in
        let names : m.base + 24 * (v.count + suc (length above)) ≤ room.arrays = a.names in
        let most : v.count + suc (length above) ≤ 4294967296 = a.few in
        let more = some_above above (group_is.not_highest (eqb-false j n other)) in
        record {
          low = room.lim + 16;
          naming = L.names.naming;
          above = L.names.above;
          base = rw c (number-in_table s w m d.name L.stood.within.name.0);
          level = rw z L.small.0;
          few = omega arith;
          room = omega (arith, b.1, b.2);
          roof = omega (arith, b.1, a.ordered);
          wide = omega (arith, b.1, a.ordered, a.heads);
        }

    -- theorem: and is known then
    pub step-known : (x : LevelName) (w1 : List ℕ) → NamesLevel s w m v.count (le_at wd w (p + 9)) (le_at 8 w (keys + 8 * i) / 262144) (eqb j n) x w1
        → LevelKnown s m room ids w v.count (level_name d.name v0 above) x w1
    step-known x w1 f =
        let names : m.base + 24 * (v.count + suc (length above)) ≤ room.arrays = L.laid.names in
        let z = level_is in
        level_known s m room ids w v.count L.names L.laid.heads (omega arith) d.name (le_at wd w (p + 9)) L.stood.within.name.0 base_is v0 above (eqb j n)
        (λ q. group_is.highest (eqb-true j n q)) (λ q. group_is.not_highest (eqb-false j n q)) x w1 (rw z at f)

    module _ (x : LevelName) (w1 : List ℕ) (long : length w1 ≡ length w) (k : LevelKnown s m room ids w v.count (level_name d.name v0 above) x w1) where
      abbrev ts : List Text
      ts = texts s w m

      abbrev us : List Text
      us = named_texts s w1 m x.count

      -- theorem: the texts have grown
      pub step-later : Extends (named_texts s w m v.count) us
      step-later = let z = k.named in rw z (new_extends (named_texts s w m v.count) (level_name d.name v0 above ∷ []))

      pub step-over : Extends ts us
      step-over = extends_trans (named-extends s w m v.count L.names.naming.upto) step-later

      within : NonterminalWithin four wd us d
      within = nonterminal_within_extend four wd ts us step-over d L.stood.within

      lies : Lies w1 p (item_bytes wd us (item d)) e
      lies =
          let z = bytes_extend four wd ts us step-over (item d) L.stood.within in
          let b = before-arrays in
          rw z (lies_agree w w1 p e (item_bytes wd ts (item d)) long (omega (arith, b.0, b.1, b.2)) (λ h a c. k.before h (omega (arith, L.stood.before))) L.stood.lies)

      head : Headed w1 wd us p d e
      head = headed four w1 wd us p d e within lies

      arguments_same : bytes_of_each (argument_bytes wd us) d.args ≡ bytes_of_each (argument_bytes wd ts) d.args
      arguments_same = bytes_each (Uses four wd ts is_name) (argument_bytes wd us) (argument_bytes wd ts) (argument-extend four wd ts us step-over) d.args L.stood.within.args

      noted : keys_at w1 places (suc (length d.alternatives)) ≡ places_from four wd us s m places keys n e (alternatives_at wd us p d) d.alternatives
      noted =
          ap (λ (c : ℕ). keys_at w1 places (suc c)) (sym L.many) ∙ keys_agree w w1 places (suc n) (λ h a b. k.after h (omega (arith, L.places-in.0))) ∙ L.noted
          ∙ places-extend four wd ts us step-over s m places keys n e (alternatives_at wd ts p d) d.alternatives L.stood.within.alternatives
          ∙ ap (λ (l : List ℕ). places_from four wd us s m places keys n e (p + 13 + wd + length l) d.alternatives) (sym arguments_same)

      keyed : keys_at w1 (keys + 8 * i) (length (of_level v0 (graded d))) ≡ level_keys code_of v0 0 (graded d)
      keyed = keys_agree w w1 (keys + 8 * i) (length (of_level v0 (graded d))) (λ h a b. k.after h (omega (arith, L.keys_in.0))) ∙ group_is.here

      means : KeysMean four wd us places keys w1 i (of_level v0 (graded d))
      means = keys_lead four wd us s m w1 places keys n (alternatives_at wd us p d) e d.alternatives within.alternatives head.alternatives noted within.fewer keys i v0 keyed

      abbrev group : Group Graded
      group = record { name = level_name d.name v0 above; lower = o; alternatives = of_level v0 (graded d) }

      abbrev level : Level
      level = record { first = i; last = j; name = x.name; below = below; lower = unwrap_or below x.name }

      below-is : (q : Option Text) → LowerIs (named_texts s w m v.count) below q → below ≡ lower_number us q
      below-is none h = h
      below-is (some t) h = h.1 ∙ ap Some (sym (extends_number (named_texts s w m v.count) us t step-later h.0))

      level_of_lem : LevelOf us group level
      level_of_lem = record { name = k.name; below = below-is o L.lower; lower = lower_or_own us o (level_name d.name v0 above) below x.name (below-is o L.lower) k.name; many = group_is.end }

      arrays : ArraysOf w1 places keys n level room.lim v.to
      arrays =
          let b = before-arrays in
          let c : keys + 8 * j ≤ room.at = omega (arith, g.upto, L.keys_in.1) in
          record {
            keys_there = omega (arith, b.2);
            keys_apart = inl (omega (arith, L.from));
            places-there = omega (arith, b.2, L.places-in.1);
            places-apart = inl (omega (arith, L.from, L.places-in.1));
            noted = λ h y z.
                let q = keys_noted four wd us s m w1 places keys n (alternatives_at wd us p d) e d.alternatives within.alternatives head.alternatives noted within.fewer keys i v0 keyed h y (omega (arith, group_is.end)) in
                (omega (arith, q.0, L.many), omega (arith, q.1, b.0, b.1, L.from));
          }

      module _ (bytes : (h : ℕ) → Bound.Fits w8 (get_or w1 h 0)) where
        -- theorem: the level can be written
        pub step-inside : LevelInside wd w1 p places keys level room.lim v.to
        step-inside =
            let b = before-arrays in
            level_inside four wd us w1 p e d (λ h. (bytes h).fits) head places keys n group level room.lim v.to level_of_lem means arrays
            (omega (arith, group_is.end, g.upto, L.many, L.stood.within.fewer)) (omega (arith, b.0, b.1, L.from)) L.upto (omega (arith, L.laid.inside))

        -- theorem: what is put is its item
        pub step-puts : wd ≤ 3 → (r : ℕ) (w2 : List ℕ) → PutsLevel wd ids p places keys level room.lim w1 v.to r w2 → Puts w1 room.lim v.to (item_bytes wd us (level_item d o v0 above)) r w2
        unfolding level_item
        step-puts narrow r w2 q =
            let z = k.names.ids_are in
            level_means four wd us w1 p e d (λ h. (bytes h).fits) head narrow places keys group level room.lim v.to within.name.0 level_of_lem step-inside means r w2 (rw z at q)
