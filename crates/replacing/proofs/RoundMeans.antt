-- THE THEOREM: the flat run over the fresh items, by places, is the replacing stage of a round. Assumes nothing.
use mathlib.Core.Path.{◌≡◌, refl, sym, ap, ◌∙◌}
use mathlib.Core.Bool.{Bool, true, false, cond, ◌||◌, false≢true}
use mathlib.Core.List.{List, [], ◌∷◌, ◌++◌, map, append-nil}
use mathlib.Core.Option.{none, some}
use Prim.Native.Nat.{ℕ, suc, ◌+◌, ◌-◌, ◌<◌}
use native.Mathlib.Omega.{arith}
use lib.ListN.{length, get_or}
use Rattle.octets.specs.Plain.Numbers.{Bytes}
use Rattle.octets.specs.Plain.Runs.{same_as}
use Rattle.parse_tree.specs.Plain.Tree.{Text, Around, repeat, choose, name, Sym, sym_span, Item, Stage, leaf, around, over, syms_of}
use Rattle.parse_tree.specs.Plain.Texts.{has, number, distinct, with_new}
use Rattle.parse_tree.specs.Plain.Display.{print}
use Rattle.parse_tree.specs.Working.Nodes.{node_at}
use Rattle.parse_tree.specs.Working.Places.{symbols_place}
use Rattle.parse_tree.specs.Plain.Reading.{got, then, times}
use Rattle.parse_tree.specs.Working.Operands.{leaf_of, around_of, over_of, inside_of}
use Rattle.parse_tree.specs.Working.Decode.{read_sym, read_items}
use Rattle.parse_tree.specs.Working.Encode.{item_bytes}
use Rattle.parse_tree.specs.Plain.WriteTape.{bytes_of_each}
use Rattle.parse_tree.specs.Plain.References.{texts_of_each, item_texts, stage_of}
use Rattle.parse_tree.specs.Working.Within.{Each}
use Rattle.parse_tree.specs.declared.syntax.Span.{Span}
use Rattle.parse_tree.specs.declared.syntax.SymbolKind.{SymbolKind}
use Rattle.parse_tree.proofs.ReadingLaws.{then-got, got_as}
use Rattle.parse_tree.proofs.Expecting.{symbol_wanted}
use Rattle.passes.specs.Outcome.{Outcome, no}
use Rattle.passes.specs.Macros.{Pending, symbol_of, MacroExpander, replace_items, span_of, drain, without_macros}
use Rattle.passes.specs.Stages.{last_stage}
use Rattle.replacing.specs.Trees.{renamed, inner_around, inner, enter_all, renamed_items, expanded_items}
use Rattle.replacing.specs.Prints.{sym_at, print_at, same_print, text_is}
use Rattle.replacing.specs.Slots.{Slots, among}
use Rattle.replacing.specs.Runs.{steps, started}
use Rattle.replacing.specs.Sound.{Key, AllNoted}
use Rattle.replacing.specs.Round.{node_span, limit_at, replaced, Replaced}
use Rattle.replacing.proofs.TreesMean.{print-inner, replace_items_is, items_keys, enter-keys}
use Rattle.replacing.proofs.Keys.{sym_key}
use Rattle.replacing.proofs.Readings.{Standing, stands_then}
use Rattle.replacing.proofs.PlacesMean.{Firm}
use Rattle.replacing.proofs.Going.{run, steps_append, steps_end, Fits, texts_now, Gone}
use Rattle.replacing.proofs.Growing.{extends_refl}
use Rattle.replacing.proofs.PoppedMeans.{drain-is}
use Rattle.replacing.proofs.ItemsGo.{items_go}

-- ---- maps
map-map : {A B C : Type 0} (f : A → B) (g : B → C) (h : A → C) (P : A → Type 0) → ((a : A) → P a → g (f a) ≡ h a) → (xs : List A) → Each P xs → map g (map f xs) ≡ map h xs
map-map f g h P e [] i = refl
map-map f g h P e (x ∷ xs) i = ap (λ y. y ∷ map g (map f xs)) (e x i.0) ∙ ap (λ (l : List _). h x ∷ l) (map-map f g h P e xs i.1)

around_span : (s : Span) (a : Around) (x : Sym) → span_of (inner_around s a x) ≡ s
around_span s (repeat o) x = refl
around_span s choose x = refl
around_span s (name m n) x = refl

span_inner : (x : Sym) → span_of (inner x) ≡ sym_span x
unfolding inner
span_inner (leaf s l) = refl
span_inner (around s a x) = around_span s a (renamed x)
span_inner (over s o xs) = refl

module _ (four : Bool) (w : ℕ) (s : List ℕ) (ts : List Text) (b : Bytes s) (d : distinct ts ≡ true) where
  -- the span of a symbol that was read
  kind-span : (left : ℕ) (sp : Span) (k : SymbolKind) (c : ℕ) (x : Sym) (e : ℕ) → elim k [
    | SymbolKind.Leaf l ↦ got (Sym.leaf sp (leaf_of ts l)) c
    | SymbolKind.Around o ↦ then (read_sym four w s ts left c) (λ y e'. got (Sym.around sp (around_of ts o) y) e')
    | SymbolKind.Over o ↦ then (times (λ q. read_sym four w s ts left q) (inside_of o) c) (λ ys e'. got (Sym.over sp (over_of ts o) (syms_of ys)) e')
  ] ≡ got x e → sym_span x ≡ sp
  kind-span left sp (SymbolKind.Leaf l) c x e p = got_as (λ z m. sym_span z ≡ sp) p refl
  kind-span left sp (SymbolKind.Around o) c x e p = let i = then-got (read_sym four w s ts left c) _ p in got_as (λ z m. sym_span z ≡ sp) i.second refl
  kind-span left sp (SymbolKind.Over o) c x e p = let i = then-got (times (λ q. read_sym four w s ts left q) (inside_of o) c) _ p in got_as (λ z m. sym_span z ≡ sp) i.second refl

  pub span_here : (left a : ℕ) (x : Sym) (e : ℕ) → read_sym four w s ts (suc left) a ≡ got x e → node_span (node_at w s a) ≡ sym_span x
  unfolding read_sym node_span
  span_here left a x e p =
      stands_then four w s ts symbols_place (suc left) b _ a p (λ n c h q.
      symbol_wanted (Standing four w s ts a c) a c x e _ n h q (λ sp k i r.
      rw i.here (sym (kind-span left sp k c x e r))))

  firm_span : (p : ℕ) → Firm four w s ts b p → span_of (inner (sym_at four w s ts p)) ≡ node_span (node_at w s p)
  firm_span p h = span_inner (sym_at four w s ts p) ∙ sym (span_here 63 p (sym_at four w s ts p) h.end h.read)

  firm_print : (p : ℕ) → Firm four w s ts b p → print (symbol_of (inner (sym_at four w s ts p))) ≡ print_at four w s ts p
  unfolding print_at
  firm_print p h = print-inner (sym_at four w s ts p) (sym_key four w s ts b 63 p (sym_at four w s ts p) h.end h.key h.read)

  limit_is : (last : Outcome Stage) (ps : List ℕ) → Each (Firm four w s ts b) ps → limit_at w s ps last ≡ last_stage (map (λ p. inner (sym_at four w s ts p)) ps) last
  unfolding limit_at
  limit_is last [] h = refl
  limit_is last (p ∷ ps) h = ap (λ (v : Span). no 18 v) (sym (firm_span p h.0))

  same_is : (p q : ℕ) → same_print four w s ts p q ≡ same_as (print (sym_at four w s ts p)) (print (sym_at four w s ts q))
  unfolding same_print print_at
  same_is p q = refl

  text_is_lem : (p : ℕ) → text_is four w s ts p ≡ cond (has (print (sym_at four w s ts p)) ts) (some (number ts (print (sym_at four w s ts p)))) none
  unfolding text_is print_at
  text_is_lem p = refl

  -- before the round
  starts : (K : List Text) (ms : List ℕ) → ((t : Text) → Key t → has t K ≡ has t (map (λ k. get_or ts k []) ms)) → Each (λ k. k < length ts) ms
      → Fits four w s ts b d (same_print four w s ts) (text_is four w s ts) same_is text_is_lem (started ms) (record { keys = K; pile = [] })
  unfolding started has distinct
  starts K ms h l = record {
    pile = refl;
    keys = λ t y. h t y ∙ or-none (has t (map (λ k. get_or ts k []) ms));
    marks = l;
    firsts = tt;
    stands = tt;
    piled = tt;
    firsts_stand = tt;
    apart = refl;
    refs = tt;
    news = tt;
    numbers = ap distinct (append-nil ts) ∙ d;
  }
    where
      or-none : (v : Bool) → v ≡ (v || false)
      or-none true = refl
      or-none false = refl

  none_noted : (ms : List ℕ) → AllNoted w s (started ms)
  unfolding started among
  none_noted ms p h = absurd (false≢true h)

  abbrev Over : List Item → List ℕ → MacroExpander → Type 0
  Over is ms σ = Gone four w s ts b d (same_print four w s ts) (text_is four w s ts) same_is text_is_lem 0 (length s) (expanded_items is) (texts_of_each item_texts (renamed_items is))
      (λ T. bytes_of_each (item_bytes w T) (renamed_items is)) (started ms) σ

  abbrev now : Slots → List Text
  now x = texts_now four w s ts b d (same_print four w s ts) (text_is four w s ts) same_is text_is_lem x

  -- more turns than it takes change nothing
  whole : (is : List Item) (ms : List ℕ) (σ : MacroExpander) (g : Over is ms σ) → replaced four w s ts ms ≡ run (length s) (bytes_of_each (item_bytes w (now g.slots)) (renamed_items is)) g.slots
  unfolding replaced
  whole is ms σ g =
      let go = steps (same_print four w s ts) (text_is four w s ts) w (length ts) s in
      let k : length s ≡ g.turns + (length s - g.turns) = omega (arith, g.few) in
      ap (λ (m : ℕ). go m (run 0 [] (started ms))) k
      ∙ steps_append (same_print four w s ts) (text_is four w s ts) w (length ts) s g.turns (length s - g.turns) (run 0 [] (started ms))
      ∙ ap (go (length s - g.turns)) (g.runs [] (now g.slots) (extends_refl (now g.slots)))
      ∙ steps_end (same_print four w s ts) (text_is four w s ts) w (length ts) s (length s - g.turns) _ (omega arith)

  atoms_are : (is : List Item) (ms : List ℕ) (σ : MacroExpander) (g : Over is ms σ) → now g.slots ≡ (stage_of ts (renamed_items is)).atoms
  unfolding stage_of started
  atoms_are is ms σ g = g.texts ∙ ap (λ (l : List Text). with_new l (texts_of_each item_texts (renamed_items is))) (append-nil ts)

  finish : (K : List Text) (is : List Item) (ms : List ℕ) (σ : MacroExpander) → Over is ms σ → σ.keys ≡ map (λ p. print (symbol_of p)) σ.pile ++ K
      → Replaced four w s ts K (renamed_items is, enter_all (expanded_items is) σ) (replaced four w s ts ms)
  unfolding print_at
  finish K is ms σ g k =
      let f = g.fits in
      let x = g.slots in
      let pr : map (print_at four w s ts) x.pile ≡ map (λ p. print (symbol_of p)) (enter_all (expanded_items is) σ).pile =
      sym (map-map (λ p. inner (sym_at four w s ts p)) (λ p. print (symbol_of p)) (print_at four w s ts) (Firm four w s ts b) firm_print x.pile f.stands) ∙ ap (map (λ p. print (symbol_of p))) f.pile in
      rw (whole is ms σ g) (record {
        end = refl;
        items = ap (λ (T : List Text). bytes_of_each (item_bytes w T) (renamed_items is)) (atoms_are is ms σ g);
        atoms = atoms_are is ms σ g;
        pile = f.pile;
        prints = pr;
        keys = enter-keys K (expanded_items is) σ (items_keys is) k ∙ ap (λ (l : List Text). l ++ K) (sym pr);
        spans = sym (map-map (λ p. inner (sym_at four w s ts p)) span_of (λ p. node_span (node_at w s p)) (Firm four w s ts b) firm_span x.pile f.stands) ∙ ap (map span_of) f.pile;
        limit = λ last. limit_is last x.pile f.stands ∙ ap (λ (p : List Pending). last_stage p last) f.pile;
        drained = λ G. drain-is four w s ts b G x.pile f.stands ∙ ap (drain G) f.pile;
        sound = f;
        noted = g.noted (none_noted ms);
      })

  -- theorem: K are the keys before the round: the texts with the numbers ms
  pub round_means : (K : List Text) (ms : List ℕ) → ((t : Text) → Key t → has t K ≡ has t (map (λ k. get_or ts k []) ms)) → Each (λ k. k < length ts) ms
      → (n : ℕ) (is : List Item) → read_items four w s ts n 0 ≡ got is (length s)
      → Replaced four w s ts K (replace_items (without_macros is) (record { keys = K; pile = [] })) (replaced four w s ts ms)
  round_means K ms h l n is p =
      let σ : MacroExpander = record { keys = K; pile = [] } in
      rw (replace_items_is (without_macros is) σ)
      (finish K (without_macros is) ms σ (items_go four w s ts b d (same_print four w s ts) (text_is four w s ts) same_is text_is_lem n 0 is (length s) p refl (started ms) σ (starts K ms h l)) refl)
