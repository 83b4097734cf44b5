-- The items resolved where they stand come to what `validate_items` says of them. Assumes nothing.
use mathlib.Core.Path.{◌≡◌, refl, sym, ap, subst, ◌∙◌}
use mathlib.Core.Bool.{Bool, true, false, cond}
use mathlib.Core.Logic.{inl, inr}
use mathlib.Core.List.{List, [], ◌∷◌, ◌++◌, append_assoc}
use Prim.Native.Nat.{ℕ, suc, ◌+◌, ◌*◌, ◌<◌, ◌≤◌}
use native.Mathlib.Omega.{arith}
use borrow.Author.Tests.{le-ltb, ne_eqb}
use lib.ListN.{length, get_or, length-append}
use Rattle.octets.specs.Working.Choice.{pick}
use Rattle.octets.specs.Plain.Runs.{Lies}
use Rattle.octets.specs.Working.Stores.{store}
use Rattle.octets.proofs.NumbersLaws.{length-le}
use Rattle.octets.proofs.StoreLaws.{length_store, store-none, store-append, get_d_store_before, get_d_store_after}
use Rattle.parse_tree.specs.Plain.Tree.{Text, Nonterminal, Alternative, Item, Source, item, extern, match}
use Rattle.parse_tree.specs.Plain.Texts.{has, number, distinct, is_name}
use Rattle.parse_tree.specs.Plain.WriteTape.{bytes_of_each}
use Rattle.parse_tree.specs.Working.Nodes.{node_bytes, span_in}
use Rattle.parse_tree.specs.Working.Encode.{argument_bytes, alternative_bytes, item_bytes, nonterminal_node, source_code}
use Rattle.parse_tree.specs.Working.Within.{Each, Uses, NonterminalWithin, ItemWithin}
use Rattle.parse_tree.proofs.TextLaws.{number-below}
use Rattle.texts.specs.declared.Map.{Map}
use Rattle.laws.proofs.Patch.{behind_node}
use Rattle.passes.specs.Outcome.{Tree, Outcome, yes, no, after, with_alternatives}
use Rattle.passes.specs.Resolve.{globals, validate_alternatives, validate_macro_args, validate_items}
use Rattle.passes.proofs.ResolveKeeps.{alternatives_kept}
use Rattle.resolve.specs.declared.Grammar.{Grammar}
use Rattle.resolve.specs.Cells.{Room, known_at}
use Rattle.resolve.specs.Commands.{RunEnd, ran, stopped, run_then, run_out}
use Rattle.resolve.specs.Items.{item_place_in, Marking, marked, marked_then, unmarks_out, parts_out, item_out, items_out, Row}
use Rattle.resolve.specs.Whole.{Apart}
use Rattle.resolve.proofs.CellsLaws.{part_apart, Sound, store-sound, known_off, lies_agree, Cellwise, off_lies}
use Rattle.resolve.proofs.GrammarLaws.{row_place, row_same, row_below, Headed, headed, terminal_headed}
use Rattle.resolve.proofs.GlobalsTable.{Coded, Proper}
use Rattle.resolve.proofs.ArgumentsMean.{marks_for, marks_are, unmarks_are, Marks, marks_mean, marks_cellwise, marks_gone, unmarks_store}
use Rattle.resolve.proofs.ScopeMean.{known_small, looked_up}
use Rattle.resolve.proofs.CommandsMean.{RunTold, alternatives_run}

abbrev Yes : Outcome (Unit {0})
Yes = yes tt

-- arguments have one length
arguments_size : (wd : ℕ) (ts : List Text) (xs : List Text) → length (bytes_of_each (argument_bytes wd ts) xs) ≡ length xs * (1 + wd)
unfolding bytes_of_each argument_bytes node_bytes
arguments_size wd ts [] = omega arith
arguments_size wd ts (x ∷ xs) =
    let a : length (argument_bytes wd ts x ++ bytes_of_each (argument_bytes wd ts) xs) ≡ length (argument_bytes wd ts x) + length (bytes_of_each (argument_bytes wd ts) xs) = length-append (argument_bytes wd ts x) (bytes_of_each (argument_bytes wd ts) xs) in
    let b : length (argument_bytes wd ts x) ≡ 1 + wd = omega (arith, length-le wd (number ts x)) in
    let c : suc (length xs) * (1 + wd) ≡ length xs * (1 + wd) + (1 + wd) = native.Mathlib.Nat.suc-mul (length xs) (1 + wd) in
    omega (arith, arguments_size wd ts xs)

-- a terminal's code is no nonterminal's
no_nonterminal : (o : Source) → source_code o ≡ 16 → ⊥
no_nonterminal extern e = omega arith
no_nonterminal match e = omega arith

uses_has : (four : Bool) (wd : ℕ) (ts xs : List Text) → Each (Uses four wd ts is_name) xs → Each (λ x. has x ts ≡ true) xs
uses_has four wd ts [] h = tt
uses_has four wd ts (x ∷ xs) h = (h.0.0, uses_has four wd ts xs h.1)

has-below : (ts xs : List Text) (n : ℕ) → n ≡ length ts → Each (λ x. has x ts ≡ true) xs → Each (λ x. number ts x < n) xs
has-below ts [] n e h = tt
has-below ts (x ∷ xs) n e h = (rw e (number-below ts x h.0), has-below ts xs n e h.1)

module _ (four : Bool) (m : Map) (t : Grammar) (ts : List Text) (c : m.count ≡ length ts) (G : Tree) (proper : Each (Proper ts) (globals G))
    (off : Apart t.at t.end m.base (m.base + 24 * m.count)) where
  -- what is asked of work before an item
  pub record Ready (w : List ℕ) : Type 0 where
    pub coded : Coded m ts w (globals G)
    pub sound : Sound m w
    pub room : Room m (length w)
    pub inside : t.end ≤ length w

  pub ready_store : (w : List ℕ) (p : ℕ) (vs : List ℕ) → t.at ≤ p → p + length vs ≤ t.end → Ready w → Ready (store w p vs)
  ready_store w p vs a b h =
      let o = part_apart t.at t.end m.base (m.base + 24 * m.count) p (p + length vs) a b off in
      record {
        coded = λ k l. known_off m w p vs k o ∙ h.coded k l;
        sound = store-sound m w p vs h.room o h.sound;
        room = let z = h.room in omega (arith, length_store w p vs);
        inside = let z = h.inside in omega (arith, length_store w p vs);
      }

  -- a run as an outcome says it: a yes is stored, as long as it was
  abbrev pub Told : {A : Type 0} → (A → List ℕ) → List ℕ → ℕ → ℕ → RunEnd → Outcome A → Type 0
  Told f w p n r (yes x) = (r ≡ ran (store w p (f x))) × (length (f x) ≡ n)
  Told f w p n r (no q s) = r ≡ stopped q s

  -- ---- one nonterminal
  module _ (w : List ℕ) (ready : Ready w) (p e : ℕ) (low : t.at ≤ p) (high : e ≤ t.end) (d : Nonterminal) (within : NonterminalWithin four t.width.bytes ts d) (head : Headed w t.width.bytes ts p d e) where
    abbrev a : ℕ
    a = p + 13 + t.width.bytes

    abbrev args : List ℕ
    args = bytes_of_each (argument_bytes t.width.bytes ts) d.args

    abbrev b : ℕ
    b = a + length args

    abbrev alternatives : List Alternative → List ℕ
    alternatives xs = bytes_of_each (alternative_bytes t.width.bytes ts) xs

    ends : e ≡ b + length (alternatives d.alternatives)
    ends = head.alternatives.end

    off_args : Apart a b m.base (m.base + 24 * m.count)
    off_args = part_apart t.at t.end m.base (m.base + 24 * m.count) a b (omega arith) (omega (arith, ends)) off

    off_rest : Apart b e m.base (m.base + 24 * m.count)
    off_rest = part_apart t.at t.end m.base (m.base + 24 * m.count) b e (omega arith) high off

    -- the arguments are marked
    module _ (v : List ℕ) (is : marks_for m ts d.args w ≡ marked v) (long : length v ≡ length w) (marks : (x : Text) → has x ts ≡ true → known_at m v (number ts x) ≡ pick (has x d.args) (known_at m w (number ts x) + 512) (known_at m w (number ts x))) where
      marked_cells : Cellwise m w v
      marked_cells = marks_cellwise m ts d.args w v is

      run_told : RunTold t.width.bytes ts v b d.alternatives (run_out m t.width.bytes e v b e) (validate_alternatives G d.args d.alternatives)
      run_told =
          alternatives_run m t.width.bytes ts four G d.args v
          (looked_up m ts c G proper w ready.coded d.args (uses_has four t.width.bytes ts d.args within.args) v marks)
          d.alternatives within.alternatives e b e (omega arith) off_rest
          (off_lies m w v marked_cells b e (alternatives d.alternatives) off_rest (let z = ready.inside in omega arith) head.alternatives)

      -- and the marks taken away
      gone : (vs : List ℕ) → length vs ≡ length (alternatives d.alternatives) → unmarks_out m t.width.bytes (length d.args) (store v b vs) a ≡ store w b vs
      gone vs n =
          let o : Apart b (b + length vs) m.base (m.base + 24 * m.count) = part_apart b e m.base (m.base + 24 * m.count) b (b + length vs) (omega arith) (omega (arith, ends)) off_rest in
          let r = ready.inside in
          let l : Lies (store v b vs) a args b =
          lies_agree v (store v b vs) a b args (length_store v b vs) (omega (arith, ends)) (λ i x y. get_d_store_before v b vs i y)
          (off_lies m w v marked_cells a b args off_args (omega (arith, ends)) head.arguments) in
          unmarks_are m ts four t.width.bytes d.args within.args (store v b vs) a b off_args (omega (arith, ends, length_store v b vs)) l
          ∙ unmarks_store m ts d.args v b vs o
          ∙ ap (λ (u : List ℕ). store u b vs) (marks_gone m ts d.args (has-below ts d.args m.count c (uses_has four t.width.bytes ts d.args within.args)) w v ready.sound ready.room is)

    -- ---- what an item becomes
    abbrev item_of : List Alternative → Item
    item_of bs = item (with_alternatives d bs)

    head_bytes_lem : (bs : List Alternative) → length bs ≡ length d.alternatives → item_bytes t.width.bytes ts (item_of bs) ≡ (node_bytes t.width.bytes (nonterminal_node ts d) ++ args) ++ alternatives bs
    unfolding item_bytes nonterminal_node
    head_bytes_lem bs n = rw n (sym (append_assoc (node_bytes t.width.bytes (nonterminal_node ts d)) args (alternatives bs)))

    -- ---- the nonterminal as the run has it
    parts : item_out m t w p e ≡ parts_out m t.width.bytes w p (length d.args) a b e
    unfolding item_out pick
    parts =
        let n = arguments_size t.width.bytes ts d.args in
        let z : a + length d.args * (1 + t.width.bytes) ≡ b = omega arith in
        rw (head.args, z, le-ltb t.end b (omega (arith, ends))) refl

    abbrev said : Outcome Item
    said = after (validate_macro_args d) (λ u. after (validate_alternatives G d.args d.alternatives) (λ bs. yes (item_of bs)))

    abbrev size : ℕ
    size = length (item_bytes t.width.bytes ts (item d))

    size_is : (bs : List Alternative) → length bs ≡ length d.alternatives → length (alternatives bs) ≡ length (alternatives d.alternatives) → length (item_bytes t.width.bytes ts (item_of bs)) ≡ size
    size_is bs n l =
        let f = node_bytes t.width.bytes (nonterminal_node ts d) ++ args in
        ap length (head_bytes_lem bs n) ∙ length-append (node_bytes t.width.bytes (nonterminal_node ts d) ++ args) (alternatives bs) ∙ ap (λ (k : ℕ). length (node_bytes t.width.bytes (nonterminal_node ts d) ++ args) + k) l
        ∙ sym (ap length (head_bytes_lem d.alternatives refl) ∙ length-append (node_bytes t.width.bytes (nonterminal_node ts d) ++ args) (alternatives d.alternatives))

    abbrev run : Marking → RunEnd
    run x = marked_then x (stopped 7 (span_in w (p + 1))) (λ v. run_then (run_out m t.width.bytes e v b e) (λ u. ran (unmarks_out m t.width.bytes (length d.args) u a)))

    yes_told : (v : List ℕ) → marks_for m ts d.args w ≡ marked v → length v ≡ length w
        → ((x : Text) → has x ts ≡ true → known_at m v (number ts x) ≡ pick (has x d.args) (known_at m w (number ts x) + 512) (known_at m w (number ts x)))
        → Told (item_bytes t.width.bytes ts) w p size (run (marked v)) (after (validate_alternatives G d.args d.alternatives) (λ bs. yes (item_of bs)))
    unfolding marked_then run_then
    yes_told v is long marks = go (validate_alternatives G d.args d.alternatives) refl (run_told v is long marks)
      where
        go : (o : Outcome (List Alternative)) → validate_alternatives G d.args d.alternatives ≡ o → RunTold t.width.bytes ts v b d.alternatives (run_out m t.width.bytes e v b e) o
            → Told (item_bytes t.width.bytes ts) w p size (run_then (run_out m t.width.bytes e v b e) (λ u. ran (unmarks_out m t.width.bytes (length d.args) u a))) (after o (λ bs. yes (item_of bs)))
        go (yes bs) q h =
            let n = alternatives_kept G d.args d.alternatives bs q in (
              ap (λ (r : RunEnd). run_then r (λ u. ran (unmarks_out m t.width.bytes (length d.args) u a))) h.0
                  ∙ ap ran (gone v is long marks (alternatives bs) h.1 ∙ behind_node w p b (node_bytes t.width.bytes (nonterminal_node ts d) ++ args) (alternatives bs) head.front head.front.end
                  ∙ ap (store w p) (sym (head_bytes_lem bs n))),
              size_is bs n h.1,
            )
        go (no k s) q h = ap (λ (r : RunEnd). run_then r (λ u. ran (unmarks_out m t.width.bytes (length d.args) u a))) h

    pub item_told : Told (item_bytes t.width.bytes ts) w p size (item_out m t w p e) said
    unfolding parts_out marked_then
    item_told =
        subst (λ (r : RunEnd). Told (item_bytes t.width.bytes ts) w p size r said) (sym (parts ∙ ap run (marks_are m ts four t.width.bytes d.args within.args w a b off_args (let z = ready.inside in omega (arith, ends)) head.arguments)))
        (go (distinct d.args) (marks_mean m ts c w ready.room (known_small m ts c G proper w ready.coded) d.args (uses_has four t.width.bytes ts d.args within.args)))
      where
        go : (x : Bool) → Marks m ts c w ready.room (known_small m ts c G proper w ready.coded) x (λ y. has y d.args) (marks_for m ts d.args w)
            → Told (item_bytes t.width.bytes ts) w p size (run (marks_for m ts d.args w)) (after (cond x Yes (no 7 d.span)) (λ u. after (validate_alternatives G d.args d.alternatives) (λ bs. yes (item_of bs))))
        go true (v, is, long, marks) = rw is (yes_told v is long marks)
        go false h = rw (h, head.span) refl

  -- ---- all items
  after-item : (A : Outcome (Unit {0})) (B : Outcome (List Alternative)) (f : List Alternative → Item) (R : Outcome (List Item))
      → after (after A (λ u. after B (λ bs. yes (f bs)))) (λ x. after R (λ xs. yes (x ∷ xs))) ≡ after A (λ u. after B (λ bs. after R (λ xs. yes (f bs ∷ xs))))
  after-item (yes u) (yes bs) f R = refl
  after-item (yes u) (no q s) f R = refl
  after-item (no q s) B f R = refl

  module _ (apart : 0 < t.count → Apart t.at t.end t.list (t.list + 8 * t.count)) where
    abbrev each : List Item → List ℕ
    each xs = bytes_of_each (item_bytes t.width.bytes ts) xs

    -- a row behind an item that is stored, as long as it was
    row_store : (w : List ℕ) → t.end ≤ length w → (i p e : ℕ) (vs : List ℕ) (xs : List Item) → t.at ≤ p → e ≤ t.end → e ≡ p + length vs → Row t ts w i e xs → Row t ts (store w p vs) i e xs
    row_store w n i p e vs xs low high z r =
        row_same t ts w (store w p vs) (length_store w p vs) n
        (λ j k l. elim (apart (omega arith)) [ inl h ↦ get_d_store_after w p vs j (omega arith) | inr h ↦ get_d_store_before w p vs j (omega arith) ]) i e xs
        (λ j k l. get_d_store_after w p vs j (omega arith)) r

    item_then : (w : List ℕ) (p e n : ℕ) (x : Item) (xs : List Item) (r : RunEnd) (f : List ℕ → RunEnd) (o : Outcome Item) (R : Outcome (List Item)) → n ≡ length (item_bytes t.width.bytes ts x) → e ≡ p + n
        → Told (item_bytes t.width.bytes ts) w p n r o
        → ((y : Item) → length (item_bytes t.width.bytes ts y) ≡ n → Told each (store w p (item_bytes t.width.bytes ts y)) e (length (each xs)) (f (store w p (item_bytes t.width.bytes ts y))) R)
        → Told each w p (length (each (x ∷ xs))) (run_then r f) (after o (λ y. after R (λ ys. yes (y ∷ ys))))
    unfolding run_then bytes_of_each
    item_then w p e n x xs r f (yes y) (yes ys) z q h g =
        let k = g y h.1 in (
          ap (λ (s : RunEnd). run_then s f) h.0 ∙ k.0 ∙ ap ran (store-append w p e (item_bytes t.width.bytes ts y) (each ys) (omega (arith, h.1))),
          omega (arith, h.1, k.1, length-append (item_bytes t.width.bytes ts y) (each ys), length-append (item_bytes t.width.bytes ts x) (each xs)),
        )
    item_then w p e n x xs r f (yes y) (no k s) z q h g = ap (λ (s : RunEnd). run_then s f) h.0 ∙ g y h.1
    item_then w p e n x xs r f (no k s) R z q h g = ap (λ (s : RunEnd). run_then s f) h

    terminal_then : (w : List ℕ) (p e : ℕ) (x : Item) (xs : List Item) (r : RunEnd) (R : Outcome (List Item)) → Lies w p (item_bytes t.width.bytes ts x) e → Told each w e (length (each xs)) r R
        → Told each w p (length (each (x ∷ xs))) r (after R (λ ys. yes (x ∷ ys)))
    unfolding bytes_of_each
    terminal_then w p e x xs r (yes ys) l h =
        (h.0 ∙ ap ran (behind_node w p e (item_bytes t.width.bytes ts x) (each ys) l l.end), omega (arith, h.1, length-append (item_bytes t.width.bytes ts x) (each ys), length-append (item_bytes t.width.bytes ts x) (each xs)))
    terminal_then w p e x xs r (no q s) l h = h

    skips : (n i p c : ℕ) (w : List ℕ) → item_place_in t w i ≡ p → get_or w p 0 ≡ c → (c ≡ 16 → ⊥) → items_out m t (suc n) i w ≡ items_out m t n (i + 1) w
    unfolding items_out pick
    skips n i p c w a b k = rw (a, b, ne_eqb c 16 k) refl

    takes : (n i p e : ℕ) (w : List ℕ) → item_place_in t w i ≡ p → item_place_in t w (i + 1) ≡ e → get_or w p 0 ≡ 16 → items_out m t (suc n) i w ≡ run_then (item_out m t w p e) (λ v. items_out m t n (i + 1) v)
    unfolding items_out pick
    takes n i p e w a b k = rw (a, b, k) refl

    pub items_told : (xs : List Item) → Each (ItemWithin four t.width.bytes ts) xs → (i p : ℕ) (w : List ℕ) → t.at ≤ p → Row t ts w i p xs → Ready w
        → Told each w p (length (each xs)) (items_out m t (length xs) i w) (validate_items G xs)
    unfolding items_out validate_items bytes_of_each
    items_told [] h i p w low r y = (ap ran (sym (store-none w p)), refl)
    items_told (item d ∷ xs) h i p w low r y =
        let e = p + length (item_bytes t.width.bytes ts (item d)) in
        let high = row_below t ts w (i + 1) e xs r.2 in
        let head = headed four w t.width.bytes ts p d e h.0 r.1 in
        let told = item_told w y p e low high d h.0 head in
        let o : Outcome Item = after (validate_macro_args d) (λ u. after (validate_alternatives G d.args d.alternatives) (λ bs. yes (item (with_alternatives d bs)))) in
        let rest = item_then w p e (length (item_bytes t.width.bytes ts (item d))) (item d) xs (item_out m t w p e) (λ v. items_out m t (length xs) (i + 1) v)
        o (validate_items G xs) refl refl told
        (λ x n. items_told xs h.1 (i + 1) e (store w p (item_bytes t.width.bytes ts x)) (omega arith)
        (row_store w y.inside (i + 1) p e (item_bytes t.width.bytes ts x) xs low high (omega arith) r.2)
        (ready_store w p (item_bytes t.width.bytes ts x) low (omega arith) y)) in
        subst (λ (o : Outcome (List Item)). Told each w p (length (each (item d ∷ xs))) (items_out m t (suc (length xs)) i w) o)
        (after-item (validate_macro_args d) (validate_alternatives G d.args d.alternatives) (λ bs. item (with_alternatives d bs)) (validate_items G xs))
        (subst (λ (q : RunEnd). Told each w p (length (each (item d ∷ xs))) q (after o (λ x. after (validate_items G xs) (λ ys. yes (x ∷ ys))))) (sym (takes (length xs) i p e w r.0 (row_place t ts w (i + 1) e xs r.2) head.code)) rest)
    items_told (Item.terminal s o x ∷ xs) h i p w low r y =
        let e = p + length (item_bytes t.width.bytes ts (Item.terminal s o x)) in
        let head = terminal_headed four w t.width.bytes ts p s o x e h.0.0 h.0.1.1 r.1 in
        subst (λ (q : RunEnd). Told each w p (length (each (Item.terminal s o x ∷ xs))) q (after (validate_items G xs) (λ ys. yes (Item.terminal s o x ∷ ys))))
        (sym (skips (length xs) i p (source_code o) w r.0 head.code (no_nonterminal o)))
        (terminal_then w p e (Item.terminal s o x) xs (items_out m t (length xs) (i + 1) w) (validate_items G xs) r.1 (items_told xs h.1 (i + 1) e w (omega arith) r.2 y))
