-- The ways out of `resolve_valid` and `resolve_tape`: the items of a validated tape, copied to work, are a grammar that `resolve` takes. Assumes nothing.
use mathlib.Core.Path.{◌≡◌, refl, sym, ap, ◌∙◌}
use mathlib.Core.Bool.{true}
use mathlib.Core.Logic.{inl, inr}
use mathlib.Core.List.{List, [], ◌∷◌}
use Prim.Native.Nat.{ℕ, ◌+◌, ◌-◌, ◌*◌, ◌^◌, ◌<◌, ◌≤◌}
use native.Mathlib.Omega.{arith}
use borrow.Author.Rules.{rules}
use lib.ListN.{length, take, get_or, length-append}
use mir.Syntax.{w8, w64}
use mir.Val as Bound
use Rattle.octets.specs.Plain.Numbers.{le_at}
use Rattle.octets.specs.Plain.Runs.{part}
use Rattle.octets.specs.Working.Stores.{store}
use Rattle.octets.proofs.LiesLaws.{lies_part}
use Rattle.octets.proofs.StoreLaws.{le_at-other, get_d_store_after}
use Rattle.parse_tree.specs.Plain.Tree.{Text, Item, Stage}
use Rattle.parse_tree.specs.Plain.WriteTape.{bytes_of_each}
use Rattle.parse_tree.specs.Working.Decode.{decode_by, decode}
use Rattle.parse_tree.specs.Working.Encode.{item_bytes}
use Rattle.parse_tree.specs.Working.Refusals.{refusal_at, refusal_over}
use Rattle.parse_tree.specs.declared.refusal.Refusal.{Refusal}
use Rattle.texts.specs.Atoms.{atoms_of}
use Rattle.texts.specs.Fields.{cell_at}
use Rattle.texts.proofs.AtomsLaws.{length_atoms}
use Rattle.texts.proofs.TableStays.{le_at-agree, linked-le}
use Rattle.validate.specs.Steps.{Refuses}
use Rattle.validate.specs.Regions.{regions_of}
use Rattle.validate.specs.Whole.{Valid, Validates}
use Rattle.validate.specs.declared.Atoms.{Atoms}
use Rattle.validate.specs.declared.regions.Regions.{Regions}
use Rattle.validate.specs.declared.Validated.{Validated}
use Rattle.validate.proofs.NotesCode.{item_long}
use Rattle.validate.proofs.TapeLaws.{atoms_long, TapeOf, tape_of, copied_long, copied_kept, copied_lies}
use Rattle.passes.specs.Outcome.{Tree, Outcome, yes, no}
use Rattle.passes.specs.Resolve.{resolve}
use Rattle.passes.proofs.ResolveWithin.{KeptItems, resolve-alike}
use Rattle.resolve.specs.Items.{Standing}
use Rattle.resolve.specs.Whole.{Holds, Became, Answers, Resolves}
use Rattle.resolve.specs.declared.Grammar.{Grammar}
use Rattle.resolve.proofs.CommandsCode.{fine_not}
use Rattle.resolve.proofs.GrammarLaws.{row_start}
use Rattle.std.specs.Prelude.{Result, Ok, Err}
use Rattle.stages.specs.declared.Resolved.{Resolved}
use Rattle.stages.specs.Stages.{Levelable, StandsBy, TapeReads, TapeResolves}
use Rattle.stages.proofs.LevelableMean.{items_named, some_linked, record_free, before-free, table-but_cells, texts-but_cells, above_but_cells}

-- ---- an item has eleven bytes or more
items_long : (ts : List Text) (is : List Item) → 11 * length is ≤ length (bytes_of_each (item_bytes 2 ts) is)
unfolding bytes_of_each
items_long ts [] = omega arith
items_long ts (x ∷ xs) = omega (arith, item_long 2 ts x (omega arith), items_long ts xs, length-append (item_bytes 2 ts x) (bytes_of_each (item_bytes 2 ts) xs))

-- ---- a tape that was validated
module _ (s w : List ℕ) (a : Atoms) (at n : ℕ) (v : Valid true 2 s w a at n) (b : (j : ℕ) → Bound.Fits w8 (get_or s j 0)) where
  abbrev ts : List Text
  ts = atoms_of s a.texts.count

  abbrev tape : Stage
  tape = record { atoms = atoms_of s a.texts.count; items = v.items }

  abbrev size : ℕ
  size = length s - at

  stands : TapeOf true s at ts v.items
  stands = tape_of true s w a at n v b

  -- ---- the grammar in work: w₁ is work with the items
  abbrev grammar : Grammar
  grammar = record { at = 7 * size; end = 7 * size + size; list = 48; count = n; width = a.width }

  module _ (room : 8 * length s ≤ length w) (w₁ : List ℕ) (copied : w₁ ≡ store w (7 * size) (part at (length s) s)) where
    long : length w₁ ≡ length w
    long = copied_kept s w at v.ready.inside w₁ copied

    copied_size : length (part at (length s) s) ≡ size
    copied_size = copied_long s w at v.ready.inside w₁ copied

    records : a.texts.base + 24 * a.texts.count ≤ length w₁
    records = let z = v.ready.ready.table.room in omega (arith, long)

    many_fit : 0 < n → 48 + 8 * n ≤ 7 * size
    many_fit h = omega (arith, items_long ts v.items, v.many, stands.ends)

    named : 0 < n → 0 < a.texts.count
    named h = omega (arith, items_named ts v.items stands.within.items (omega (arith, v.many)), length_atoms s a.texts.count)

    valid_standing : Standing a.texts grammar (length w₁)
    valid_standing = record {
      records = records;
      listed = λ h. omega (arith, many_fit h, long, v.ready.inside);
      ordered = omega arith;
      inside = λ h. let z = records in omega (arith, named h, v.base);
      narrow = a.width.narrow;
      wide = a.width.wide;
    }

    -- what stands apart from the copied items is as it was
    before_same : (k x : ℕ) → x + k ≤ 7 * size → le_at k w₁ x ≡ le_at k w x
    before_same k x h = ap (λ (u : List ℕ). le_at k u x) copied ∙ le_at-other k w (7 * size) (part at (length s) s) x (inl h)

    behind_same : (k x : ℕ) → 7 * size + size ≤ x → le_at k w₁ x ≡ le_at k w x
    behind_same k x h = ap (λ (u : List ℕ). le_at k u x) copied ∙ le_at-other k w (7 * size) (part at (length s) s) x (inr (omega (arith, copied_size)))

    holds : ((j : ℕ) → Bound.Fits w8 (get_or w₁ j 0)) → Holds w₁ a.texts grammar ts v.items
    unfolding cell_at
    holds f =
        record {
          four = true;
          bytes = λ j. (f j).fits;
          lies = rw (v.wide, ← stands.items_part) (copied_lies s w at v.ready.inside w₁ copied room);
          inside = omega (arith, long);
          within = rw v.wide stands.within.items;
          many = v.many;
          places = λ i h. rw v.wide (before_same 8 (48 + 8 * i) (omega (arith, many_fit (omega arith))) ∙ v.noted i h);
          distinct = v.ready.apart;
          texts = sym (length_atoms s a.texts.count);
          blank = λ k h. behind_same 4 (a.texts.base + 24 * k + 20) (omega (arith, v.base)) ∙ v.ready.ready.blank k h;
          items_apart = inl (omega (arith, v.base));
          list_apart = λ h. inl (omega (arith, many_fit h, v.base));
          apart = λ h. inr (omega (arith, many_fit h));
        }

    -- r is what the pass answered, and w₂ what it left
    module _ (f : (j : ℕ) → Bound.Fits w8 (get_or w₁ j 0)) (r : Result (Unit {0}) Refusal) (w₂ : List ℕ) (i : Resolves a.texts grammar w₁ r w₂) where
      answers : Answers a.texts grammar ts (resolve v.items) w₁ r w₂
      unfolding Resolves
      answers = i ts v.items (holds f)

      reads : (x : Result Resolved Refusal) → StandsBy s tape (resolve v.items) x w₂ → TapeResolves s x w₂
      unfolding TapeResolves TapeReads decode
      reads x k = rw v.decoded k

      valid_refused : (why : Refusal) → r ≡ Err why → TapeResolves s (Err why) w₂
      unfolding Answers StandsBy
      valid_refused why e = reads (Err why) (go (resolve v.items) answers)
        where
          go : (o : Outcome Tree) → Answers a.texts grammar ts o w₁ r w₂ → StandsBy s tape o (Err why) w₂
          go (yes R) k = absurd (fine_not (sym k.0 ∙ e))
          go (no q p) k = let z : why ≡ refusal_over q p = cc in rw z refl

      -- the items resolved stand where the items stood, the table stands but for its cells
      module _ (R : Tree) (yes-is : resolve v.items ≡ yes R) (k : Became a.texts grammar ts R w₁ w₂) where
        alike : KeptItems true 2 ts v.items R
        alike = resolve-alike true 2 ts v.items R yes-is

        few : a.texts.buckets ≤ a.texts.count
        few = omega (arith, v.buckets, linked-le a.texts.count)

        record_kept : (j x : ℕ) → j < a.texts.count → a.texts.base + 24 * j ≤ x → x < a.texts.base + 24 * j + 20 → get_or w₂ x 0 ≡ get_or w x 0
        record_kept j x h l u =
            k.others x (record_free a.texts grammar j x (omega (arith, v.base)) l u) ∙ ap (λ (y : List ℕ). get_or y x 0) copied
            ∙ get_d_store_after w (7 * size) (part at (length s) s) x (omega (arith, copied_size, v.base))

        listed : (j : ℕ) → j < n → le_at 8 w₂ (48 + 8 * j) ≡ length (bytes_of_each (item_bytes 2 ts) (take j R))
        listed j h =
            let l = many_fit (omega arith) in
            le_at-agree 8 w₁ w₂ (48 + 8 * j) (λ x p q. k.others x (before-free a.texts grammar x (omega arith) (omega (arith, v.base))))
            ∙ before_same 8 (48 + 8 * j) (omega arith) ∙ v.noted j h ∙ sym (alike.sizes j)

        levelable : Levelable s w₂ a.texts grammar at ts R
        levelable =
            let g = v.ready.ready.table in
            let l = k.long ∙ long in
            let c = atoms_long ts in
            let z = length_atoms s a.texts.count in
            let m = v.many ∙ sym alike.many in
            record {
              table = table-but_cells s w w₂ a.texts g v.above l few record_kept;
              texts-are = texts-but_cells s w w₂ a.texts g v.above l few record_kept ∙ v.ready.ready.same;
              on_tape = above_but_cells s w w₂ a.texts g v.above l few record_kept;
              some = λ h. rw v.buckets (some_linked a.texts.count (named (omega (arith, m))));
              narrower = few;
              width = v.wide;
              row = row_start grammar ts w₂ R m (λ j h. rw v.wide (listed j h)) k.lies;
              within = alike.within stands.within.items;
              many = m;
              before = λ h. record { ordered = omega arith; items = omega (arith, v.base); list = omega (arith, many_fit h, v.base) };
              base = v.base;
              records = omega (arith, v.base, stands.begins, v.ready.inside);
              heads = omega (arith, v.base, stands.begins, v.ready.inside, few);
            }

      valid_fine : r ≡ Ok tt → TapeResolves s (Ok (record { texts = a.texts; grammar = grammar; at = at })) w₂
      unfolding Answers StandsBy
      valid_fine e = reads (Ok (record { texts = a.texts; grammar = grammar; at = at })) (go (resolve v.items) refl answers)
        where
          go : (o : Outcome Tree) → resolve v.items ≡ o → Answers a.texts grammar ts o w₁ r w₂ → StandsBy s tape o (Ok (record { texts = a.texts; grammar = grammar; at = at })) w₂
          go (yes R) q k = record {
            found = record { texts = a.texts; grammar = grammar; at = at };
            is = refl;
            within = stands.within;
            many = sym (length_atoms s a.texts.count);
            inside = v.ready.inside;
            atoms = stands.atoms_part;
            room = omega (arith, long, k.1.long);
            items = rw v.wide at (lies_part w₂ (7 * size) (7 * size + size) (bytes_of_each (item_bytes a.width.bytes ts) R) k.1.lies);
            levels = levelable R q k.1;
          }
          go (no q p) _ k = absurd (fine_not (sym e ∙ k))

  -- ---- where g is the map of work
  abbrev grammar_of : Regions → Grammar
  grammar_of g = record { at = g.items; end = g.items + size; list = g.list; count = n; width = a.width }

  module _ (room : 8 * length s ≤ length w) where
    pub layout_fits : length w < 2 ^ 64 → 8 * size < 2 ^ 64
    layout_fits l = omega arith

    pub copy_inside : at ≤ length s
    copy_inside = v.ready.inside

    module _ (g : Regions) (e : g ≡ regions_of size) where
      items_there : g.items ≡ 7 * size
      unfolding regions_of
      items_there = ap (λ (u : Regions). u.items) e

      list_there : g.list ≡ 48
      unfolding regions_of
      list_there = ap (λ (u : Regions). u.list) e

      pub copy_room : g.items + (length s - at) ≤ length w
      copy_room = omega (arith, items_there)

      pub grammar_fits : length w < 2 ^ 64 → Bound.Fits w64 (g.items + size)
      grammar_fits l = record { fits = omega (arith, items_there) }

      module _ (w₁ : List ℕ) (copied : w₁ ≡ store w g.items (part at (length s) s)) where
        there : w₁ ≡ store w (7 * size) (part at (length s) s)
        there = copied ∙ ap (λ (p : ℕ). store w p (part at (length s) s)) items_there

        pub layout_standing : Standing a.texts (grammar_of g) (length w₁)
        layout_standing = rw (items_there, list_there) (valid_standing room w₁ there)

        module _ (f : (j : ℕ) → Bound.Fits w8 (get_or w₁ j 0)) (r : Result (Unit {0}) Refusal) (w₂ : List ℕ) (i : Resolves a.texts (grammar_of g) w₁ r w₂) where
          pub layout_refused : (why : Refusal) → r ≡ Err why → TapeResolves s (Err why) w₂
          layout_refused why k = valid_refused room w₁ there f r w₂ (rw (items_there, list_there) at i) why k

          pub layout_fine : r ≡ Ok tt → TapeResolves s (Ok (record { texts = a.texts; grammar = grammar_of g; at = at })) w₂
          layout_fine k = rw (items_there, list_there) (valid_fine room w₁ there f r w₂ (rw (items_there, list_there) at i) k)

pub ruleset validated = (rules, layout_fits, copy_inside, copy_room, grammar_fits, layout_standing, layout_refused, layout_fine)

-- ---- `resolve_tape`: x is what `validate` answered
module _ (s w : List ℕ) (x : Result Validated Refusal) (i : Validates true 2 s x w) where
  pub tape_refused : (why : Refusal) → x ≡ Err why → TapeResolves s (Err why) w
  unfolding Validates TapeResolves TapeReads decode refusal_at
  tape_refused why e =
      let n : Refuses (decode_by true 2 s) why = rw e at i in
      rw n.is (ap (λ (k : ℕ). Err (record { number = why.number; from = why.from; to = k })) n.twice)

  pub tape_valid : (v : Validated) → x ≡ Ok v → Valid true 2 s w v.atoms v.at v.items
  unfolding Validates
  tape_valid v e = rw e at i

pub ruleset tapes_resolved = (rules, tape_refused, tape_valid)
