-- The theorem of the pass: globals and items of a grammar in work come to what `resolve` says of its tree. Assumes nothing.
use mathlib.Core.Path.{◌≡◌, sym, subst, ◌∙◌}
use mathlib.Core.List.{List, []}
use mathlib.Core.Logic.{inl, inr}
use Prim.Native.Nat.{ℕ, ◌+◌, ◌*◌}
use native.Mathlib.Omega.{arith}
use borrow.Author.Rules.{rules}
use lib.ListN.{length}
use Rattle.std.specs.Prelude.{Result, Ok, Err}
use Rattle.octets.specs.Working.Stores.{store}
use Rattle.octets.proofs.LiesLaws.{lies_to}
use Rattle.octets.proofs.StoreLaws.{length_store, lies_store, get_d_store_before, get_d_store_after}
use Rattle.parse_tree.specs.Plain.Tree.{Text, Item}
use Rattle.parse_tree.specs.Plain.WriteTape.{bytes_of_each}
use Rattle.parse_tree.specs.Working.Encode.{item_bytes}
use Rattle.parse_tree.specs.declared.refusal.Refusal.{Refusal}
use Rattle.texts.specs.declared.Map.{Map}
use Rattle.passes.specs.Outcome.{Outcome, yes, no, after}
use Rattle.passes.specs.Resolve.{globals, check_globals, validate_items, resolve}
use Rattle.resolve.specs.declared.Grammar.{Grammar}
use Rattle.resolve.specs.Commands.{ran, stopped, Runs}
use Rattle.resolve.specs.Items.{Standing, items_out, Row}
use Rattle.resolve.specs.Globals.{globals_out}
use Rattle.resolve.specs.Whole.{Holds, Became, Answers, Resolves}
use Rattle.resolve.proofs.CommandsCode.{fine_not}
use Rattle.resolve.proofs.CellsLaws.{known_is, bytes_sound, Cellwise, off_same}
use Rattle.resolve.proofs.GrammarLaws.{row_start, row_same}
use Rattle.resolve.proofs.GlobalsTable.{Coded, Says}
use Rattle.resolve.proofs.GlobalsMean.{globals-proper, globals-cellwise, globals-sound, globals-mean}
use Rattle.resolve.proofs.GlobalsCode.{standing_as}
use Rattle.resolve.proofs.ItemsMean.{Ready, Told, items_told}

module _ (m : Map) (t : Grammar) (w : List ℕ) (standing : Standing m t (length w)) where
  module _ (ts : List Text) (is : List Item) (h : Holds w m t ts is) where
    row : Row t ts w 0 t.at is
    row = row_start t ts w is h.many h.places h.lies

    unknown : Coded m ts w []
    unknown k l = known_is m w k (omega (arith, h.texts)) ∙ h.blank k (omega (arith, h.texts))

    says : Says m ts (globals is) (check_globals [] (globals is)) (globals_out m t w)
    says = globals-mean h.four m t ts is h.within h.many w h.items_apart h.list_apart h.inside row h.distinct h.texts standing.records unknown

    -- ---- the items, once the globals are entered
    module _ (u : List ℕ) (entered : globals_out m t w ≡ ran u) (coded : Coded m ts u (globals is)) where
      cells : Cellwise m w u
      cells = globals-cellwise h.four m t ts is h.within h.many w h.items_apart h.list_apart h.inside row u entered

      ready : Ready h.four m t ts h.texts is (globals-proper h.four t.width.bytes ts is h.within) h.items_apart u
      ready = record {
        coded = coded;
        sound = globals-sound h.four m t ts is h.within h.many w h.items_apart h.list_apart h.inside row u standing.records (bytes_sound m w h.bytes standing.records) entered;
        room = let z = standing.records in omega (arith, cells.long);
        inside = let z = h.inside in omega (arith, cells.long);
      }

      abbrev each : List Item → List ℕ
      each xs = bytes_of_each (item_bytes t.width.bytes ts) xs

      told : Told h.four m t ts h.texts is (globals-proper h.four t.width.bytes ts is h.within) h.items_apart
          each u t.at (length (each is)) (items_out m t (length is) 0 u) (validate_items is is)
      told =
          items_told h.four m t ts h.texts is (globals-proper h.four t.width.bytes ts is h.within) h.items_apart h.apart is h.within 0 t.at u (omega arith)
          (row_same t ts w u cells.long h.inside (λ j k l. off_same m w u cells t.list (t.list + 8 * t.count) j (h.list_apart (omega arith)) k l) 0 t.at is
          (λ j k l. off_same m w u cells t.at t.end j h.items_apart k l) row) ready

      became : (R : List Item) → length (each R) ≡ length (each is) → Became m t ts R w (store u t.at (each R))
      became R n =
          let e : t.at + length (each R) ≡ t.end = omega (arith, h.lies.end) in
          let z = h.inside in
          record {
            long = length_store u t.at (each R) ∙ cells.long;
            lies = lies_to e (lies_store u t.at (each R) (omega (arith, cells.long)));
            others = λ i f. elim f.item [ inl l ↦ get_d_store_before u t.at (each R) i l | inr l ↦ get_d_store_after u t.at (each R) i (omega arith) ] ∙ cells.others i f.cell;
          }

      items_answer : (r : Result (Unit {0}) Refusal) (w' : List ℕ) → Runs (items_out m t t.count 0 u) r w' → Answers m t ts (validate_items is is) w r w'
      unfolding Runs Answers
      items_answer r w' k = go (validate_items is is) told (subst (λ (n : ℕ). Runs (items_out m t n 0 u) r w') h.many k)
        where
          go : (o : Outcome (List Item))
              → Told h.four m t ts h.texts is (globals-proper h.four t.width.bytes ts is h.within) h.items_apart each u t.at (length (each is)) (items_out m t (length is) 0 u) o
              → Runs (items_out m t (length is) 0 u) r w' → Answers m t ts o w r w'
          go (yes R) q k = let z : Runs (ran (store u t.at (each R))) r w' = rw q.0 at k in (z.0, rw z.1 (became R q.1))
          go (no n s) q k = let z : Runs (stopped n s) r w' = rw q at k in z

    -- ---- both
    refused_answer : (why : Refusal) (w₁ w' : List ℕ) → Runs (globals_out m t w) (Err why) w₁ → Answers m t ts (resolve is) w (Err why) w'
    unfolding Runs Answers resolve
    refused_answer why w₁ w' k = go (check_globals [] (globals is)) says
      where
        go : (o : Outcome (Unit {0})) → Says m ts (globals is) o (globals_out m t w) → Answers m t ts (after o (λ u. validate_items is is)) w (Err why) w'
        go (yes u) (v, q, c) = let z : Runs (ran v) (Err why) w₁ = rw q at k in absurd (fine_not (sym z.0))
        go (no n s) q = let z : Runs (stopped n s) (Err why) w₁ = rw q at k in z

    fine_answer : (w₁ : List ℕ) → Runs (globals_out m t w) (Ok tt) w₁ → (r : Result (Unit {0}) Refusal) (w' : List ℕ) → Runs (items_out m t t.count 0 w₁) r w' → Answers m t ts (resolve is) w r w'
    unfolding Runs Answers resolve
    fine_answer w₁ k r w' l = go (check_globals [] (globals is)) says
      where
        go : (o : Outcome (Unit {0})) → Says m ts (globals is) o (globals_out m t w) → Answers m t ts (after o (λ u. validate_items is is)) w r w'
        go (yes u) (v, q, c) =
            let z : Runs (ran v) (Ok tt) w₁ = rw q at k in
            items_answer v q c r w' (rw z.1 at l)
        go (no n s) q = let z : Runs (stopped n s) (Ok tt) w₁ = rw q at k in absurd (fine_not z)

  -- v and w₁ are what the globals left
  module _ (v : Result (Unit {0}) Refusal) (w₁ : List ℕ) (k : Runs (globals_out m t w) v w₁) where
    pub resolves_refused : (why : Refusal) → v ≡ Err why → Resolves m t w (Err why) w₁
    unfolding Resolves
    resolves_refused why e ts is h = refused_answer ts is h why w₁ w₁ (rw e at k)

    pub resolves_fine : v ≡ Ok tt → (r : Result (Unit {0}) Refusal) (w' : List ℕ) → Runs (items_out m t t.count 0 w₁) r w' → Resolves m t w r w'
    unfolding Resolves
    resolves_fine e r w' l ts is h = fine_answer ts is h w₁ (rw e at k) r w' l

pub ruleset resolved = (rules, standing_as, resolves_refused, resolves_fine)
