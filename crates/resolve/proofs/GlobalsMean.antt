-- The theorem of the globals: what is entered of items that stand in work is those items' globals, or refused as `check_globals` does. Assumes nothing.
use mathlib.Core.Path.{◌≡◌, refl, sym, ap, ◌∙◌}
use mathlib.Core.Bool.{Bool, true, false}
use mathlib.Core.List.{List, [], ◌∷◌, ◌++◌}
use Prim.Native.Nat.{ℕ, suc, ◌+◌, ◌*◌, ◌≤◌, ◌<◌}
use native.Mathlib.Omega.{arith}
use borrow.Author.Tests.{eqb-true}
use lib.Dec.{eqb}
use lib.ListN.{length, get_or}
use Rattle.octets.specs.Working.Choice.{pick}
use Rattle.octets.specs.Plain.Numbers.{le_at}
use Rattle.octets.specs.Plain.Runs.{Lies}
use Rattle.parse_tree.specs.Plain.Tree.{Text, Nonterminal, Item, item, extern, match}
use Rattle.parse_tree.specs.Plain.Texts.{number, distinct}
use Rattle.parse_tree.specs.Working.Nodes.{span_in}
use Rattle.parse_tree.specs.Working.Encode.{item_bytes}
use Rattle.parse_tree.specs.Working.Within.{Each, ItemWithin}
use Rattle.parse_tree.specs.declared.syntax.Span.{Span}
use Rattle.parse_tree.proofs.ReadingLaws.{each_append}
use Rattle.texts.specs.declared.Map.{Map}
use Rattle.passes.specs.Resolve.{terminal_def, nonterminal_def, Global, nonterminals, externs, matches, globals, check_globals}
use Rattle.resolve.specs.declared.Grammar.{Grammar}
use Rattle.resolve.specs.Cells.{Room}
use Rattle.resolve.specs.Commands.{RunEnd, ran, run_then}
use Rattle.resolve.specs.Items.{item_place_in, Row}
use Rattle.resolve.specs.Globals.{declared_at, declare_out, each_out, globals_out}
use Rattle.resolve.specs.Whole.{Apart}
use Rattle.resolve.proofs.CellsLaws.{Cellwise, cellwise_same, cellwise_then, off_same, Sound}
use Rattle.resolve.proofs.GrammarLaws.{row_same, headed, terminal_headed}
use Rattle.resolve.proofs.GlobalsTable.{code_of, Coded, Proper, declare_by, entered, then_same, then-ran, entered_append, entered_cellwise, entered_sound, Says, says_as, entered_says}

-- ---- the globals of one code
abbrev met_of : Nonterminal → Global
met_of d = record { name = d.name; def = nonterminal_def (length d.args); span = d.span }

abbrev named_of : Span → Text → Global
named_of s t = record { name = t; def = terminal_def; span = s }

abbrev one : ℕ → Item → List Global
one which (item d) = pick (eqb 16 which) (met_of d ∷ []) []
one which (Item.terminal s extern t) = pick (eqb 48 which) (named_of s t ∷ []) []
one which (Item.terminal s match t) = pick (eqb 49 which) (named_of s t ∷ []) []

abbrev select : ℕ → List Item → List Global
select which [] = []
select which (x ∷ xs) = one which x ++ select which xs

select_16 : (xs : List Item) → select 16 xs ≡ nonterminals xs
unfolding pick
select_16 [] = refl
select_16 (item d ∷ xs) = ap (λ (l : List Global). met_of d ∷ l) (select_16 xs)
select_16 (Item.terminal s extern t ∷ xs) = select_16 xs
select_16 (Item.terminal s match t ∷ xs) = select_16 xs

select_48 : (xs : List Item) → select 48 xs ≡ externs xs
unfolding pick
select_48 [] = refl
select_48 (item d ∷ xs) = select_48 xs
select_48 (Item.terminal s extern t ∷ xs) = ap (λ (l : List Global). named_of s t ∷ l) (select_48 xs)
select_48 (Item.terminal s match t ∷ xs) = select_48 xs

select_49 : (xs : List Item) → select 49 xs ≡ matches xs
unfolding pick
select_49 [] = refl
select_49 (item d ∷ xs) = select_49 xs
select_49 (Item.terminal s extern t ∷ xs) = select_49 xs
select_49 (Item.terminal s match t ∷ xs) = ap (λ (l : List Global). named_of s t ∷ l) (select_49 xs)

-- ---- the scan of one code
module _ (four : Bool) (m : Map) (t : Grammar) (ts : List Text) (which : ℕ) where
  abbrev step : List ℕ → ℕ → RunEnd
  step w p = pick (eqb (get_or w p 0) which) (declare_out m t.width.bytes w p (declared_at t.width.bytes w p which)) (ran w)

  -- what is told of an item at p: its code, its name, its span, and what it defines
  entered_one : (g : Global) (w : List ℕ) (p c : ℕ) → get_or w p 0 ≡ c → le_at t.width.bytes w (p + 9) ≡ number ts g.name → span_in w (p + 1) ≡ g.span
      → (which ≡ c → declared_at t.width.bytes w p which ≡ code_of g.def) → step w p ≡ entered m ts w (pick (eqb c which) (g ∷ []) [])
  unfolding entered declare_out declare_by pick run_then
  entered_one g w p c a n s d = rw a (go (eqb c which) refl)
    where
      go : (b : Bool) → eqb c which ≡ b → pick b (declare_out m t.width.bytes w p (declared_at t.width.bytes w p which)) (ran w) ≡ entered m ts w (pick b (g ∷ []) [])
      go true e = rw (d (sym (eqb-true c which e)), n, s) (sym (then-ran (declare_by m w (number ts g.name) (code_of g.def) g.span)))
      go false e = refl

  step_is : (x : Item) → ItemWithin four t.width.bytes ts x → (w : List ℕ) (p e : ℕ) → Lies w p (item_bytes t.width.bytes ts x) e → step w p ≡ entered m ts w (one which x)
  unfolding declared_at pick
  step_is (item d) h w p e l =
      let z = headed four w t.width.bytes ts p d e h l in
      entered_one (met_of d) w p 16 z.code z.name z.span (λ q. rw (q, z.args) refl)
  step_is (Item.terminal s extern x) h w p e l =
      let z = terminal_headed four w t.width.bytes ts p s extern x e h.0 h.1.1 l in
      entered_one (named_of s x) w p 48 z.code z.name z.span (λ q. rw q refl)
  step_is (Item.terminal s match x) h w p e l =
      let z = terminal_headed four w t.width.bytes ts p s match x e h.0 h.1.1 l in
      entered_one (named_of s x) w p 49 z.code z.name z.span (λ q. rw q refl)

  -- ---- items one behind another, off the records
  module _ (u : List ℕ) (off : Apart t.at t.end m.base (m.base + 24 * m.count)) (listed : 0 < t.count → Apart t.list (t.list + 8 * t.count) m.base (m.base + 24 * m.count)) (inside : t.end ≤ length u) where
    cells_row : (w : List ℕ) → Cellwise m u w → (i p : ℕ) (xs : List Item) → t.at ≤ p → Row t ts u i p xs → Row t ts w i p xs
    cells_row w c i p xs a r =
        row_same t ts u w c.long inside (λ j k l. off_same m u w c t.list (t.list + 8 * t.count) j (listed (omega arith)) k l) i p xs
        (λ j k l. off_same m u w c t.at t.end j off (omega arith) l) r

    turn : (n i : ℕ) (w : List ℕ) → each_out m t which (suc n) i w ≡ run_then (step w (item_place_in t w i)) (λ w'. each_out m t which n (i + 1) w')
    unfolding each_out pick run_then
    turn n i w = go (eqb (get_or w (item_place_in t w i) 0) which)
      where
        go : (b : Bool)
            → pick b (run_then (declare_out m t.width.bytes w (item_place_in t w i) (declared_at t.width.bytes w (item_place_in t w i) which)) (λ w'. each_out m t which n (i + 1) w')) (each_out m t which n (i + 1) w)
            ≡ run_then (pick b (declare_out m t.width.bytes w (item_place_in t w i) (declared_at t.width.bytes w (item_place_in t w i) which)) (ran w)) (λ w'. each_out m t which n (i + 1) w')
        go true = refl
        go false = refl

    pub each-is : (xs : List Item) → Each (ItemWithin four t.width.bytes ts) xs → (i p : ℕ) → t.at ≤ p → Row t ts u i p xs → (w : List ℕ) → Cellwise m u w
        → each_out m t which (length xs) i w ≡ entered m ts w (select which xs)
    unfolding each_out entered
    each-is [] h i p a r w c = refl
    each-is (x ∷ xs) h i p a r w c =
        let e = p + length (item_bytes t.width.bytes ts x) in
        let q = cells_row w c i p (x ∷ xs) a r in
        let y : step w (item_place_in t w i) ≡ entered m ts w (one which x) = ap (step w) q.0 ∙ step_is x h.0 w p e q.1 in
        turn (length xs) i w ∙ ap (λ (z : RunEnd). run_then z (λ w'. each_out m t which (length xs) (i + 1) w')) y
        ∙ then_same (entered m ts w (one which x)) (λ w'. each_out m t which (length xs) (i + 1) w') (λ w'. entered m ts w' (select which xs))
        (λ w' k. each-is xs h.1 (i + 1) e (omega arith) r.2 w' (cellwise_then m u w w' c (entered_cellwise m ts (one which x) w w' k)))
        ∙ sym (entered_append m ts (one which x) (select which xs) w)

-- ---- a global of an item is proper
module _ (four : Bool) (wd : ℕ) (ts : List Text) where
  picked_proper : (b : Bool) (g : Global) → Proper ts g → Each (Proper ts) (pick b (g ∷ []) [])
  unfolding pick
  picked_proper true g h = (h, tt)
  picked_proper false g h = tt

  one_proper : (x : Item) → ItemWithin four wd ts x → (which : ℕ) → Each (Proper ts) (one which x)
  one_proper (item d) h which = picked_proper (eqb 16 which) (met_of d) (record { atom = h.name.0; plain = tt; small = omega (arith, h.few) })
  one_proper (Item.terminal s extern x) h which = picked_proper (eqb 48 which) (named_of s x) (record { atom = h.1.0; plain = tt; small = omega arith })
  one_proper (Item.terminal s match x) h which = picked_proper (eqb 49 which) (named_of s x) (record { atom = h.1.0; plain = tt; small = omega arith })

  select_proper : (xs : List Item) → Each (ItemWithin four wd ts) xs → (which : ℕ) → Each (Proper ts) (select which xs)
  select_proper [] h which = tt
  select_proper (x ∷ xs) h which = each_append (Proper ts) (one which x) (select which xs) (one_proper x h.0 which) (select_proper xs h.1 which)

  pub globals-proper : (is : List Item) → Each (ItemWithin four wd ts) is → Each (Proper ts) (globals is)
  globals-proper is h =
      each_append (Proper ts) (nonterminals is) (externs is ++ matches is) (rw (select_16 is) at (select_proper is h 16))
      (each_append (Proper ts) (externs is) (matches is) (rw (select_48 is) at (select_proper is h 48)) (rw (select_49 is) at (select_proper is h 49)))

-- ---- the theorem
module _ (four : Bool) (m : Map) (t : Grammar) (ts : List Text) (is : List Item) (within : Each (ItemWithin four t.width.bytes ts) is) (many : t.count ≡ length is) (w : List ℕ)
    (off : Apart t.at t.end m.base (m.base + 24 * m.count)) (listed : 0 < t.count → Apart t.list (t.list + 8 * t.count) m.base (m.base + 24 * m.count)) (inside : t.end ≤ length w)
    (row : Row t ts w 0 t.at is) where
  scan : (which : ℕ) (u : List ℕ) → Cellwise m w u → each_out m t which t.count 0 u ≡ entered m ts u (select which is)
  scan which u c = ap (λ (n : ℕ). each_out m t which n 0 u) many ∙ each-is four m t ts which w off listed inside is within 0 t.at (omega arith) row u c

  globals-are : globals_out m t w ≡ entered m ts w (globals is)
  unfolding globals_out
  globals-are =
      let e₁ : (u : List ℕ) → Cellwise m w u → each_out m t 16 t.count 0 u ≡ entered m ts u (nonterminals is) = λ u c. scan 16 u c ∙ ap (entered m ts u) (select_16 is) in
      let e₂ : (u : List ℕ) → Cellwise m w u → each_out m t 48 t.count 0 u ≡ entered m ts u (externs is) = λ u c. scan 48 u c ∙ ap (entered m ts u) (select_48 is) in
      let e₃ : (u : List ℕ) → Cellwise m w u → each_out m t 49 t.count 0 u ≡ entered m ts u (matches is) = λ u c. scan 49 u c ∙ ap (entered m ts u) (select_49 is) in
      ap (λ (x : RunEnd). run_then x (λ w₁. run_then (each_out m t 48 t.count 0 w₁) (λ w₂. each_out m t 49 t.count 0 w₂))) (e₁ w (cellwise_same m w))
      ∙ then_same (entered m ts w (nonterminals is)) (λ w₁. run_then (each_out m t 48 t.count 0 w₁) (λ w₂. each_out m t 49 t.count 0 w₂)) (λ w₁. entered m ts w₁ (externs is ++ matches is))
      (λ w₁ p.
      let c₁ = entered_cellwise m ts (nonterminals is) w w₁ p in
      ap (λ (x : RunEnd). run_then x (λ w₂. each_out m t 49 t.count 0 w₂)) (e₂ w₁ c₁)
      ∙ then_same (entered m ts w₁ (externs is)) (λ w₂. each_out m t 49 t.count 0 w₂) (λ w₂. entered m ts w₂ (matches is))
      (λ w₂ q. e₃ w₂ (cellwise_then m w w₁ w₂ c₁ (entered_cellwise m ts (externs is) w₁ w₂ q)))
      ∙ sym (entered_append m ts (externs is) (matches is) w₁))
      ∙ sym (entered_append m ts (nonterminals is) (externs is ++ matches is) w)

  pub globals-cellwise : (u : List ℕ) → globals_out m t w ≡ ran u → Cellwise m w u
  globals-cellwise u e = entered_cellwise m ts (globals is) w u (sym globals-are ∙ e)

  pub globals-sound : (u : List ℕ) → Room m (length w) → Sound m w → globals_out m t w ≡ ran u → Sound m u
  globals-sound u r s e = entered_sound m ts (globals is) (globals-proper four t.width.bytes ts is within) w u r s (sym globals-are ∙ e)

  pub globals-mean : distinct ts ≡ true → m.count ≡ length ts → Room m (length w) → Coded m ts w [] → Says m ts (globals is) (check_globals [] (globals is)) (globals_out m t w)
  globals-mean d c r h =
      says_as m ts (globals is) (check_globals [] (globals is)) _ _ globals-are
      (entered_says m ts d c (globals is) w r h (globals-proper four t.width.bytes ts is within) (check_globals [] (globals is)) refl)
