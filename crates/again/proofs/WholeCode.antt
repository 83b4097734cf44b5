-- The ways out of `resolve_again`. s is the tape; w₀ is work at the start, w₁ with the list, w₂ with no name known, w₃ with the items resolved. Assumes nothing.
use mathlib.Core.Path.{◌≡◌, refl, sym, ◌∙◌, subst}
use mathlib.Core.Bool.{Bool, true, false}
use mathlib.Core.Logic.{◌⊎◌, inl, inr}
use mathlib.Core.List.{List}
use Prim.Native.Nat.{ℕ, ◌+◌, ◌*◌, ◌<◌, ◌≤◌}
use native.Mathlib.Omega.{arith}
use borrow.Author.Rules.{rules}
use borrow.Author.Tests.{ltb-true, ltb-false}
use mir.Syntax.{w8}
use mir.Val as Bound
use lib.Dec.{ltb}
use lib.ListN.{length, take, get_or}
use Rattle.octets.specs.Plain.Numbers.{le_at}
use Rattle.parse_tree.specs.Plain.Tree.{Text}
use Rattle.parse_tree.specs.Plain.WriteTape.{bytes_of_each}
use Rattle.parse_tree.specs.Working.Encode.{item_bytes}
use Rattle.parse_tree.specs.Working.Within.{Each}
use Rattle.parse_tree.specs.Working.Refusals.{refusal_over}
use Rattle.parse_tree.specs.declared.refusal.Refusal.{Refusal}
use Rattle.texts.specs.declared.Map.{Map}
use Rattle.texts.specs.Fields.{mark_at}
use Rattle.texts.specs.Texts.{Behind}
use Rattle.texts.specs.Table.{Table, Above, Stays, texts}
use Rattle.texts.proofs.TextCode.{length_texts}
use Rattle.texts.proofs.TableStays.{le_at-agree, stays, above_stays, above_lower}
use Rattle.passes.specs.Outcome.{Tree, Outcome, yes, no}
use Rattle.passes.specs.Resolve.{resolve}
use Rattle.passes.proofs.ResolveWithin.{KeptItems, resolve-alike}
use Rattle.resolve.specs.Items.{Standing, Row}
use Rattle.resolve.specs.Whole.{Holds, Free, Became, Answers, Resolves}
use Rattle.resolve.specs.declared.Grammar.{Grammar}
use Rattle.std.specs.Prelude.{Result, Ok, Err}
use Rattle.resolve.proofs.CellsLaws.{lies_agree}
use Rattle.resolve.proofs.CommandsCode.{fine_not}
use Rattle.resolve.proofs.GrammarLaws.{row_start}
use Rattle.rounds.specs.Define.{Cells, Forgot, Items}
use Rattle.rounds.proofs.ResolvedFew.{resolved-few}
use Rattle.again.specs.List.{Listable, SomeListed, ListedItems, ListsItems}
use Rattle.again.specs.Whole.{AgainStands, SomeAgain, AgainReady, AgainBy, AgainTo}
use Rattle.again.proofs.WholeMean.{mark_same, table_same, texts-same, texts-short}

-- ---- bytes that resolving leaves as they are, where the items stand behind the records: of a record, before its cell
record_free : (m : Map) (t : Grammar) (k i : ℕ) → k < m.count → m.base + 24 * m.count ≤ t.at → m.base + 24 * k ≤ i → i < m.base + 24 * k + 20 → Free m t i
record_free m t k i q b l h = record { item = inl (omega arith); cell = λ j _. go j (ltb j k) refl }
  where
    go : (j : ℕ) (x : Bool) → ltb j k ≡ x → (i < m.base + 24 * j + 20) ⊎ (m.base + 24 * j + 24 ≤ i)
    go j true e = let z = ltb-true j k e in inr (omega arith)
    go j false e = let z = ltb-false j k e in inl (omega arith)

-- before the records
before-free : (m : Map) (t : Grammar) (i : ℕ) → m.base + 24 * m.count ≤ t.at → i < m.base → Free m t i
before-free m t i b h = record { item = inl (omega arith); cell = λ j _. inl (omega arith) }

-- and behind the items
behind_free : (m : Map) (t : Grammar) (i : ℕ) → m.base + 24 * m.count ≤ t.at → t.at ≤ t.end → t.end ≤ i → Free m t i
behind_free m t i b o h = record { item = inr h; cell = λ j q. inr (omega arith) }

module _ (s w₀ : List ℕ) (m : Map) (list at end : ℕ) where
  abbrev ts : List Text
  ts = texts s w₀ m

  abbrev size : Tree → ℕ
  size is = length (bytes_of_each (item_bytes 2 ts) is)

  many_texts : length ts ≡ m.count
  unfolding texts
  many_texts = length_texts s w₀ m.base m.count

  abbrev Stands : Tree → Type 0
  Stands L = AgainStands s w₀ m list at end L

  ordered : (L : Tree) → Stands L → at ≤ end
  ordered L h = omega (arith, h.lies.end)

  listable : (L : Tree) → Stands L → Listable w₀ 2 at end list false ts L
  listable L h = record { narrow = omega arith; wide = omega arith; lies = h.lies; within = h.within; fits = omega (arith, h.fits, h.records); inside = h.inside; short = h.short }

  pub again_listed : SomeAgain s w₀ m list at end → SomeListed w₀ 2 at end list
  again_listed g = record { four = false; texts = ts; items = g.tree; listable = listable g.tree g.stands }

  -- ---- the list is written
  module _ (n : ℕ) (w₁ : List ℕ) (i₁ : ListsItems w₀ 2 at end list n w₁) where
    listed : (L : Tree) → Stands L → ListedItems w₀ 2 list ts L n w₁
    unfolding ListsItems
    listed L h = i₁ false ts L (listable L h)

    behind_list : (L : Tree) → Stands L → (i : ℕ) → m.base ≤ i → get_or w₁ i 0 ≡ get_or w₀ i 0
    behind_list L h i l = (listed L h).others i (inr (omega (arith, h.fits)))

    table₁ : (L : Tree) → Stands L → Stays s w₀ m w₁ m
    table₁ L h =
        stays s w₀ w₁ m end h.cells.table h.above (listed L h).long
        (record { agree = λ i a b. behind_list L h i (omega (arith, ordered L h, h.records)) })
        (record { agree = λ i a b. behind_list L h i a })
        (record { agree = λ i a b. behind_list L h i a })

    pub again_cells : SomeAgain s w₀ m list at end → Cells s w₁ m
    again_cells g =
        let x = table₁ g.tree g.stands in
        record { table = x.table; above = above_stays s w₀ m w₁ m (m.base + 24 * m.count) x g.stands.cells.above }

    -- ---- names are forgotten
    module _ (p₂ : 2 ≤ 2) (q₂ : 2 ≤ 3) (w₂ : List ℕ) (i₂ : Forgot s w₁ m w₂) where
      abbrev grammar : Grammar
      grammar = record { at = at; end = end; list = list; count = n; width = record { bytes = 2; narrow = p₂; wide = q₂ } }

      long₂ : (L : Tree) → Stands L → length w₂ ≡ length w₀
      long₂ L h = i₂.cells.long ∙ (listed L h).long

      standing : SomeAgain s w₀ m list at end → Standing m grammar (length w₂)
      standing g =
          let h = g.stands in
          let o = ordered g.tree g.stands in
          let l = long₂ g.tree g.stands in
          let y = (listed g.tree g.stands).many in
          record {
            records = omega (arith, h.records, h.inside, o, l);
            listed = λ _. omega (arith, h.fits, h.records, h.inside, o, l, y);
            ordered = o;
            inside = λ _. omega (arith, h.inside, l);
            narrow = omega arith;
            wide = omega arith;
          }

      texts₂ : (L : Tree) → Stands L → texts s w₂ m ≡ ts
      texts₂ L h = i₂.cells.same ∙ (table₁ L h).same

      marks₂ : (L : Tree) → Stands L → (k : ℕ) → k < m.count → mark_at w₂ m.base k ≡ mark_at w₀ m.base k
      marks₂ L h k l = i₂.cells.marks k l ∙ (table₁ L h).marks k l

      above₂ : (L : Tree) → Stands L → Above s w₂ m end
      above₂ L h = record { above = λ k l. subst (Behind s end) (sym (marks₂ L h k l)) (h.above.above k l) }

      places₂ : (L : Tree) → Stands L → (i : ℕ) → i < n → le_at 8 w₂ (list + 8 * i) ≡ size (take i L)
      places₂ L h i l =
          let y = (listed L h).many in
          le_at-agree 8 w₁ w₂ (list + 8 * i) (λ x p q. i₂.cells.others x (inl (omega (arith, h.fits)))) ∙ (listed L h).places i (omega arith)

      module _ (f : (j : ℕ) → Bound.Fits w8 (get_or w₂ j 0)) where
        holds : (L : Tree) → Stands L → Holds w₂ m grammar ts L
        holds L h =
            let y = (listed L h).many in
            record {
              four = false;
              bytes = λ j. (f j).fits;
              lies = lies_agree w₀ w₂ at end _ (long₂ L h) (omega (arith, h.inside))
                  (λ i a b. i₂.cells.others i (inr (omega (arith, h.records))) ∙ behind_list L h i (omega (arith, h.records))) h.lies;
              inside = omega (arith, h.inside, long₂ L h);
              within = h.within;
              many = y;
              places = places₂ L h;
              distinct = h.apart;
              texts = sym many_texts;
              blank = i₂.none;
              items_apart = inr h.records;
              list_apart = λ _. inl (omega (arith, h.fits, y));
              apart = λ _. inr (omega (arith, h.fits, h.records, y));
            }

        module _ (r : Result (Unit {0}) Refusal) (w₃ : List ℕ) (i₃ : Resolves m grammar w₂ r w₃) where
          answers : (L : Tree) → Stands L → Answers m grammar ts (resolve L) w₂ r w₃
          unfolding Resolves
          answers L h = i₃ ts L (holds L h)

          pub again_refused : (why : Refusal) → r ≡ Err why → AgainTo s w₀ m list at end (Err why) w₃
          unfolding AgainTo AgainBy Answers
          again_refused why e L h = go (resolve L) (answers L h)
            where
              go : (o : Outcome Tree) → Answers m grammar ts o w₂ r w₃ → AgainBy s w₀ m list at end o (Err why) w₃
              go (yes R) k = absurd (fine_not (sym k.0 ∙ e))
              go (no q p) k = let z : why ≡ refusal_over q p = cc in rw z refl

          -- ---- the items R
          module _ (b : (j : ℕ) → Bound.Fits w8 (get_or s j 0)) (L : Tree) (h : Stands L) (R : Tree) (is : resolve L ≡ yes R) (k : Became m grammar ts R w₂ w₃) where
            alike : KeptItems false 2 ts L R
            alike = resolve-alike false 2 ts L R is

            many : n ≡ length R
            many = (listed L h).many ∙ sym alike.many

            record_kept : (j i : ℕ) → j < m.count → m.base + 24 * j ≤ i → i < m.base + 24 * j + 20 → get_or w₃ i 0 ≡ get_or w₂ i 0
            record_kept j i q l u = k.others i (record_free m grammar j i q h.records l u)

            far : (i : ℕ) → end ≤ i → i < length w₂ → get_or w₃ i 0 ≡ get_or w₂ i 0
            far i l u = k.others i (behind_free m grammar i h.records (ordered L h) l)

            table₃ : Table s w₃ m
            table₃ = table_same s w₂ w₃ m end i₂.cells.table (above₂ L h) k.long h.narrower far record_kept

            texts₃ : texts s w₃ m ≡ ts
            texts₃ = texts-same s w₂ w₃ m end i₂.cells.table (above₂ L h) k.long h.narrower far record_kept ∙ texts₂ L h

            marks₃ : (j : ℕ) → j < m.count → mark_at w₃ m.base j ≡ mark_at w₀ m.base j
            marks₃ j l = mark_same s w₂ w₃ m end i₂.cells.table (above₂ L h) k.long h.narrower far record_kept j l ∙ marks₂ L h j l

            above₃ : Above s w₃ m end
            above₃ = record { above = λ j l. subst (Behind s end) (sym (marks₃ j l)) (h.above.above j l) }

            places₃ : (i : ℕ) → i < n → le_at 8 w₃ (list + 8 * i) ≡ size (take i R)
            places₃ i l =
                let y = (listed L h).many in
                le_at-agree 8 w₂ w₃ (list + 8 * i) (λ x p q. k.others x (before-free m grammar x h.records (omega (arith, h.fits)))) ∙ places₂ L h i l ∙ sym (alike.sizes i)

            row : Row grammar ts w₃ 0 at R
            row = row_start grammar ts w₃ R many places₃ k.lies

            few : length R ≤ 65536
            few =
                let short = subst (Each (λ (t : Text). length t < 65536)) (texts₂ L h) (texts-short s w₂ (λ j. (b j).fits) (λ j. (f j).fits) m i₂.cells.table) in
                let z = resolved-few false (record { atoms = ts; items = L }) R (record { apart = h.apart; short = short; items = h.within }) is in
                omega (arith, z, many_texts, h.few)

            items : Items s w₃ m grammar false R
            items = record {
              cells = record { table = table₃; above = above_lower s w₃ m end (m.base + 24 * m.count) (omega (arith, h.records, ordered L h)) above₃ };
              row = rw texts₃ row;
              within = rw texts₃ (alike.within h.within);
              many = many;
              few = omega (arith, many, few);
              narrow = omega arith;
              wide = omega arith;
              off = inr h.records;
              list = omega (arith, h.fits, (listed L h).many);
              inside = omega (arith, h.inside, k.long, long₂ L h);
            }

            ready : AgainReady s w₀ m list at end R grammar w₃
            ready = record { from = refl; upto = refl; listed = refl; width = refl; long = k.long ∙ long₂ L h; same = texts₃; marks = marks₃; items = items }

          pub again_fine : (b : (j : ℕ) → Bound.Fits w8 (get_or s j 0)) → r ≡ Ok tt → AgainTo s w₀ m list at end (Ok grammar) w₃
          unfolding AgainTo AgainBy Answers
          again_fine b e L h = go (resolve L) refl (answers L h)
            where
              go : (o : Outcome Tree) → resolve L ≡ o → Answers m grammar ts o w₂ r w₃ → AgainBy s w₀ m list at end o (Ok grammar) w₃
              go (yes R) q k = (grammar, refl, ready b L h R q k.1)
              go (no q p) _ k = absurd (fine_not (sym e ∙ k))

-- what stood at the start comes first: the rest is found from it
pub again_standing : (s w₀ : List ℕ) (m : Map) (list at end : ℕ) → SomeAgain s w₀ m list at end → (n : ℕ) (w₁ : List ℕ) → ListsItems w₀ 2 at end list n w₁ → (p₂ : 2 ≤ 2) (q₂ : 2 ≤ 3) (w₂ : List ℕ) → Forgot s w₁ m w₂
    → Standing m (record { at = at; end = end; list = list; count = n; width = record { bytes = 2; narrow = p₂; wide = q₂ } }) (length w₂)
again_standing s w₀ m list at end g n w₁ i₁ p₂ q₂ w₂ i₂ = standing s w₀ m list at end n w₁ i₁ p₂ q₂ w₂ i₂ g

pub ruleset again_ways = (rules, again_listed, again_cells, again_standing, again_refused, again_fine)
