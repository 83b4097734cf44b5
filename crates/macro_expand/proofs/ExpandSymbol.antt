-- What `macro_expand_symbol` makes of every symbol that stands at a place: a parameter gives way to its argument, any other command is copied. Assumes nothing.
use mathlib.Core.Path.{◌≡◌, refl, sym, ap, ◌∙◌, subst}
use mathlib.Core.Bool.{Bool, true, false, false≢true}
use mathlib.Core.List.{List, ◌∷◌, ◌++◌}
use mathlib.Core.Option.{Option, none, some}
use Prim.Native.Nat.{ℕ, zero, suc, ◌+◌, ◌-◌, ◌≤◌, ◌<◌}
use native.Mathlib.Omega.{arith}
use mir.Syntax.{w8}
use mir.Val as Bound
use lib.Dec.{eqb}
use lib.ListN.{length, get_or}
use Rattle.octets.specs.Working.Choice.{pick}
use Rattle.octets.specs.Plain.Numbers.{le_at, le}
use Rattle.octets.specs.Plain.Runs.{part, Lies}
use Rattle.octets.proofs.LiesLaws.{lies_part}
use Rattle.parse_tree.specs.Plain.Tree.{Text, Sym, Syms, ambiguous, bare, quoted, regex, nonterminal, lookahead, lookbehind, error, leaf, around, over, count}
use Rattle.parse_tree.specs.Plain.Texts.{number}
use Rattle.parse_tree.specs.Working.Nodes.{span_bytes, node_bytes, symbol_bytes, leaf_code, leaf_operand, size_of, long_of}
use Rattle.parse_tree.specs.Working.Encode.{leaf_node, sym_bytes, syms_bytes}
use Rattle.parse_tree.specs.Working.Within.{SpanWithin, SymWithin, SymsWithin}
use Rattle.parse_tree.specs.declared.syntax.Span.{Span}
use Rattle.parse_tree.specs.Working.Nested.{inside_at}
use Rattle.std.specs.Prelude.{Option as Maybe, Some, None}
use Rattle.texts.specs.Table.{texts}
use Rattle.passes.specs.Macros.{at, argument_of, or_name, macro_expand_symbol, macro_expand_symbols}
use Rattle.laws.specs.Flat.{sym_node, children}
use Rattle.laws.proofs.Flat.{sym_bytes_lem, node_size}
use Rattle.resolve.proofs.GrammarLaws.{named-last}
use Rattle.precedence.specs.Write.{Puts}
use Rattle.precedence.proofs.WriteMean.{span_there}
use Rattle.display.proofs.StandsLaws.{Standing, standing}
use Rattle.replacing.specs.Trees.{is_key, renamed, renamed_all}
use Rattle.expander.specs.declared.Ground.{Ground}
use Rattle.expander.specs.Names.{named_in}
use Rattle.appending.specs.declared.Appended.{Appended}
use Rattle.appending.specs.declared.symbols.Copied.{Copied}
use Rattle.appending.specs.Pieces.{plainly, then_piece, Appends}
use Rattle.appending.specs.Symbols.{PutsCommand}
use Rattle.appending.proofs.PiecesLaws.{steady_plainly, appends_then, appends_is, appends_puts}
use Rattle.appending.proofs.SymbolsStays.{texts-stay}
use Rattle.macro_expand.specs.declared.arguments.Call.{Call}
use Rattle.macro_expand.specs.Arguments.{argument_for}
use Rattle.macro_expand.specs.PutIn.{sym_piece, syms_piece, Placed, Framed, Argument, AnyArgument, PutsArgument, parameter_at, PutsInAll}
use Rattle.macro_expand.proofs.FrameLaws.{placed_split, placed_stays, frame_stays, Answers, Finds, frame_finds, argument-renamed}
use Rattle.macro_expand.proofs.PutInPlain.{named-extends}
use Rattle.macro_expand.proofs.ExpandTrees.{is_names, code_names, Stays, other_stays, copy_bytes, copy_texts, copy_fits}

-- ---- the argument that a name gives way to
module _ (g : Ground) (c : Call) (w : List ℕ) (p : ℕ) where
  by_name : (b : Bool) → eqb (get_or w p 0) 36 ≡ b → parameter_at g c w p ≡ pick b (argument_for g c w (le_at g.width.bytes w (p + 9))) None
  unfolding parameter_at
  by_name b e = cc

-- ---- what is found
abbrev is_at : Maybe ℕ → Bool
is_at (Some p) = true
is_at None = false

not_nothing : {p : ℕ} → None ≡ Some p → ⊥
not_nothing e = false≢true (ap is_at e)

answered : (s w : List ℕ) (g : Ground) (ps : List ℕ) (four : Bool) (left p : ℕ) (o : Option Sym) → Finds s w g ps four left (Some p) o → (x : Sym) × (o ≡ some x) × Answers s w g ps four left p x
answered s w g ps four left p none h = absurd h
answered s w g ps four left p (some x) h = (x, refl, h)

unanswered : (s w : List ℕ) (g : Ground) (ps : List ℕ) (four : Bool) (left : ℕ) (o : Option Sym) → Finds s w g ps four left None o → o ≡ none
unanswered s w g ps four left none h = refl
unanswered s w g ps four left (some x) h = absurd h

-- ---- every symbol that stands there
module _ (s w : List ℕ) (g : Ground) (n lim : ℕ) (c : Call) (left : ℕ) (x : Copied) (ps : List ℕ) (names : List Text) (args : Syms) (four : Bool) (e : ℕ) (y : Sym)
    (F : Framed s w g n lim c x.out ps names args) (W : SymWithin four g.width.bytes (texts s w g.m) y left) (P : Placed w g x.out x.at e (sym_bytes g.width.bytes (texts s w g.m) y)) where
  abbrev ts : List Text
  ts = texts s w g.m

  abbrev wd : ℕ
  wd = g.width.bytes

  abbrev p : ℕ
  p = x.at

  S : Standing s w g.m wd four left p e y
  S = standing s w g.m wd four left p e y (record { within = W; lies = P.lies })

  pub symbol_deep : 0 < left
  symbol_deep = S.deep

  parts : Placed w g x.out p (p + length (node_bytes wd (sym_node ts y))) (node_bytes wd (sym_node ts y)) × Placed w g x.out (p + length (node_bytes wd (sym_node ts y))) e (syms_bytes wd ts (children y))
  parts = placed_split w g x.out p e (node_bytes wd (sym_node ts y)) (syms_bytes wd ts (children y)) (subst (Placed w g x.out p e) (sym_bytes_lem wd ts y) P)

  size_is : p + long_of wd (get_or w p 0) ≡ p + length (node_bytes wd (sym_node ts y))
  unfolding size_of
  size_is = ap (λ (i : ℕ). p + i) S.reads.long

  pub symbol_long : p + 9 ≤ e
  unfolding size_of
  symbol_long = omega (arith, node_size wd ts y, parts.1.lies.end)

  pub symbol_upto : p + long_of wd (get_or w p 0) ≤ x.out.to
  symbol_upto = omega (arith, size_is, parts.0.before)

  names_is : eqb (get_or w p 0) 36 ≡ is_names y
  names_is = code_names wd ts w p _ y parts.0.lies

  -- ---- a parameter
  module _ (q : ℕ) (f : parameter_at g c w p ≡ Some q) where
    other : is_names y ≡ false → ⊥
    unfolding pick
    other k = not_nothing (sym (by_name g c w p false (names_is ∙ k)) ∙ f)

    -- it is a name, and this is its argument
    record Parameter : Type 0 where
      pub span : Span
      pub text : Text
      pub is : y ≡ leaf span (nonterminal text)
      pub word : le_at wd w (p + 9) ≡ number ts text
      pub end : e ≡ p + (9 + wd)

    found_by_lem : (z : Sym) → y ≡ z → is_names z ≡ true → SymWithin four wd ts z left → Lies w p (sym_bytes wd ts z) e → Parameter
    unfolding sym_bytes node_bytes symbol_bytes leaf_node leaf_code leaf_operand
    found_by_lem (leaf sp (ambiguous t)) i k W' l = absurd (false≢true k)
    found_by_lem (leaf sp (bare t)) i k W' l = absurd (false≢true k)
    found_by_lem (leaf sp (quoted t)) i k W' l = absurd (false≢true k)
    found_by_lem (leaf sp (regex t)) i k W' l = absurd (false≢true k)
    found_by_lem (leaf sp (nonterminal t)) i k W' l = go left W' l
      where
        go : (d : ℕ) → SymWithin four wd ts (leaf sp (nonterminal t)) d → Lies w p (36 ∷ (span_bytes sp ++ le wd (number ts t))) e → Parameter
        go zero h m = absurd h
        go (suc d) h m =
            let N = named-last w wd p 36 sp (number ts t) e h.0 h.1.1 m in
            record { span = sp; text = t; is = i; word = N.name; end = omega (arith, N.rest.end) }
    found_by_lem (leaf sp lookahead) i k W' l = absurd (false≢true k)
    found_by_lem (leaf sp lookbehind) i k W' l = absurd (false≢true k)
    found_by_lem (leaf sp error) i k W' l = absurd (false≢true k)
    found_by_lem (around sp a z) i k W' l = absurd (false≢true k)
    found_by_lem (over sp o zs) i k W' l = absurd (false≢true k)

    is_name_lem : is_names y ≡ true
    is_name_lem = go (is_names y) refl
      where
        go : (b : Bool) → is_names y ≡ b → is_names y ≡ true
        go true k = k
        go false k = absurd (other k)

    Q : Parameter
    Q = found_by_lem y refl is_name_lem W P.lies

    asked : argument_for g c w (le_at wd w (p + 9)) ≡ Some q
    unfolding pick
    asked = sym (by_name g c w p true (names_is ∙ is_name_lem)) ∙ f

    A : (z : Sym) × (argument_of names args Q.text ≡ some z) × Answers s w g ps F.four F.left q z
    A = answered s w g ps F.four F.left q (argument_of names args Q.text)
        (subst (λ (r : Maybe ℕ). Finds s w g ps F.four F.left r (argument_of names args Q.text)) asked (frame_finds s w g n lim c x.out ps names args F Q.text (le_at wd w (p + 9)) Q.word))

    span_of : ((j : ℕ) → Bound.Fits w8 (get_or w j 0)) → le 8 (le_at 8 w (p + 1)) ≡ span_bytes Q.span
    unfolding sym_bytes node_bytes symbol_bytes leaf_node leaf_code leaf_operand
    span_of b = span_there w p e 36 Q.span (le wd (number ts Q.text)) (λ j. (b j).fits) (subst (λ (z : Sym). Lies w p (sym_bytes wd ts z) e) Q.is P.lies)

    span_in_lem : SpanWithin Q.span
    span_in_lem = go left (subst (λ (z : Sym). SymWithin four wd ts z left) Q.is W)
      where
        go : (d : ℕ) → SymWithin four wd ts (leaf Q.span (nonterminal Q.text)) d → SpanWithin Q.span
        go zero h = absurd h
        go (suc d) h = h.0

    given : (span : ℕ) → span ≡ le_at 8 w (p + 1) → ((j : ℕ) → Bound.Fits w8 (get_or w j 0)) → Argument s w g n lim q span x.out ps F.four F.left A.2.from A.2.end A.0 Q.span
    given span i b = record {
      going = F.going;
      at = A.2.at;
      referring = A.2.referring;
      span_is = ap (le 8) i ∙ span_of b;
      span_fits = span_in_lem;
    }

    pub parameter_any : (span : ℕ) → span ≡ le_at 8 w (p + 1) → ((j : ℕ) → Bound.Fits w8 (get_or w j 0)) → AnyArgument s w g n lim q span x.out
    parameter_any span i b = record {
      kind = is_key A.0;
      some = record { places = ps; four = F.four; left = F.left; from = A.2.from; end = A.2.end; symbol = A.0; span_of = Q.span; key = refl; is = given span i b };
    }

    expanded_is : macro_expand_symbol names (renamed_all args) y ≡ at Q.span (renamed A.0)
    unfolding macro_expand_symbol
    expanded_is =
        ap (macro_expand_symbol names (renamed_all args)) Q.is
        ∙ ap (or_name Q.span Q.text) (argument-renamed names args Q.text ∙ ap (λ (o : Option Sym). elim o [ none ↦ none | some z ↦ some (renamed z) ]) A.1)

    pub parameter_put : (span : ℕ) → span ≡ le_at 8 w (p + 1) → ((j : ℕ) → Bound.Fits w8 (get_or w j 0)) → (v : Appended) (w' : List ℕ) → PutsArgument s w g n lim q span left x.out v w'
        → (p + (9 + wd) ≡ e) × Appends s g n lim ps w x.out (sym_piece wd (macro_expand_symbol names (renamed_all args) y) left) v w'
    unfolding PutsArgument
    parameter_put span i b v w' U =
        (sym Q.end, subst (λ (z : Sym). Appends s g n lim ps w x.out (sym_piece wd z left) v w') (sym expanded_is) (U ps F.four F.left A.2.from A.2.end A.0 Q.span (given span i b)))

  -- ---- none
  module _ (f : parameter_at g c w p ≡ None) where
    name_stays : (z : Sym) → is_names z ≡ true → y ≡ z → SymWithin four wd ts z left → Lies w p (sym_bytes wd ts z) e → Stays names (renamed_all args) z
    unfolding macro_expand_symbol sym_bytes node_bytes symbol_bytes leaf_node leaf_code leaf_operand pick
    name_stays (leaf sp (ambiguous t)) k i W' l = absurd (false≢true k)
    name_stays (leaf sp (bare t)) k i W' l = absurd (false≢true k)
    name_stays (leaf sp (quoted t)) k i W' l = absurd (false≢true k)
    name_stays (leaf sp (regex t)) k i W' l = absurd (false≢true k)
    name_stays (leaf sp (nonterminal t)) k i W' l = go left W' l
      where
        is_none : le_at wd w (p + 9) ≡ number ts t → argument_of names args t ≡ none
        is_none r =
            let z : argument_for g c w (le_at wd w (p + 9)) ≡ None = sym (by_name g c w p true (names_is ∙ ap is_names i)) ∙ f in
            unanswered s w g ps F.four F.left (argument_of names args t)
            (subst (λ (u : Maybe ℕ). Finds s w g ps F.four F.left u (argument_of names args t)) z (frame_finds s w g n lim c x.out ps names args F t (le_at wd w (p + 9)) r))

        go : (d : ℕ) → SymWithin four wd ts (leaf sp (nonterminal t)) d → Lies w p (36 ∷ (span_bytes sp ++ le wd (number ts t))) e
            → or_name sp t (argument_of names (renamed_all args) t) ≡ leaf sp (nonterminal t)
        go zero h m = absurd h
        go (suc d) h m =
            let N = named-last w wd p 36 sp (number ts t) e h.0 h.1.1 m in
            ap (or_name sp t) (argument-renamed names args t ∙ ap (λ (o : Option Sym). elim o [ none ↦ none | some z ↦ some (renamed z) ]) (is_none N.name))
    name_stays (leaf sp lookahead) k i W' l = absurd (false≢true k)
    name_stays (leaf sp lookbehind) k i W' l = absurd (false≢true k)
    name_stays (leaf sp error) k i W' l = absurd (false≢true k)
    name_stays (around sp a z) k i W' l = absurd (false≢true k)
    name_stays (over sp o zs) k i W' l = absurd (false≢true k)

    stays : Stays names (renamed_all args) y
    stays = go (is_names y) refl
      where
        go : (b : Bool) → is_names y ≡ b → Stays names (renamed_all args) y
        go true k = name_stays y k refl W P.lies
        go false k = other_stays names (renamed_all args) y k

    module _ (k : ℕ) (i : k ≡ inside_at wd w p) (r : Copied) (w1 : List ℕ) (H : PutsCommand w 0 g.width.bytes lim x (get_or w x.at 0) r w1) where
      abbrev bytes : List ℕ
      bytes = part p (p + long_of wd (get_or w p 0)) w

      bytes_are : bytes ≡ node_bytes wd (sym_node ts y)
      bytes_are = ap (λ (j : ℕ). part p j w) size_is ∙ lies_part w p (p + length (node_bytes wd (sym_node ts y))) (node_bytes wd (sym_node ts y)) parts.0.lies

      puts : Puts w lim x.out.to bytes r.out.to w1
      puts = let z : 0 + p ≡ p = omega arith in rw z at H.puts

      head : Appends s g n lim ps w x.out (plainly bytes) r.out w1
      head = subst (λ (v : Appended). Appends s g n lim ps w x.out (plainly bytes) v w1) (sym H.out) (appends_puts s g n lim ps w x.out bytes r.out.to w1 F.going puts)

      same : texts s w1 g.m ≡ ts
      same = texts-stay s g n lim ps w x.out F.going (plainly bytes) r.out w1 head

      pub inside-frame : Framed s w1 g n lim c r.out ps names args
      inside-frame = frame_stays s g n lim c w x.out ps names args F (plainly bytes) r.out w1 head

      pub inside-many : count (children y) ≡ k
      unfolding inside_at
      inside-many = sym S.reads.held ∙ sym i

      pub inside-within : SymsWithin four wd (texts s w1 g.m) (children y) (left - 1)
      inside-within = subst (λ (us : List Text). SymsWithin four wd us (children y) (left - 1)) (sym same) S.inside.within

      pub inside-placed : Placed w1 g r.out r.at e (syms_bytes wd (texts s w1 g.m) (children y))
      inside-placed =
          let z : p + length (node_bytes wd (sym_node ts y)) ≡ r.at = sym size_is ∙ sym H.at in
          let a = placed_stays s g n lim ps w x.out F.going (plainly bytes) r.out w1 head (p + length (node_bytes wd (sym_node ts y))) e (syms_bytes wd ts (children y)) parts.1 in
          subst (λ (us : List Text). Placed w1 g r.out r.at e (syms_bytes wd us (children y))) (sym same) (subst (λ (j : ℕ). Placed w1 g r.out j e (syms_bytes wd ts (children y))) z a)

      pub inside-whole : (t : Copied) (w2 : List ℕ) → PutsInAll s w1 g n lim c (left - 1) k r t w2
          → (t.at ≡ e) × Appends s g n lim ps w x.out (sym_piece wd (macro_expand_symbol names (renamed_all args) y) left) t.out w2
      unfolding PutsInAll
      inside-whole t w2 U =
          let u = U ps names args four e (children y) inside-frame inside-many inside-within inside-placed in
          let rest = syms_piece wd (macro_expand_symbols names (renamed_all args) (children y)) (left - 1) in
          let T = named_in s w2 g t.out.count in
          let both = appends_then s g n lim ps w x.out (plainly bytes) r.out w1 rest t.out w2 (steady_plainly bytes) F.going head u.1 in
          let kept = texts-stay s g n lim ps w x.out F.going (then_piece (plainly bytes) rest) t.out w2 both in (
            u.0,
            appends_is s g n lim ps w x.out (then_piece (plainly bytes) rest) t.out w2 both (sym_piece wd (macro_expand_symbol names (renamed_all args) y) left)
                (copy_texts names (renamed_all args) four wd ts (named_in s w g x.out.count) (named-extends s w w g x.out.count refl) y left W stays)
                (copy_bytes names (renamed_all args) four wd ts T (named-extends s w w2 g t.out.count kept) y left W stays ∙ ap (λ (l : List ℕ). l ++ syms_bytes wd T (macro_expand_symbols names (renamed_all args) (children y))) (sym bytes_are))
                (copy_fits names (renamed_all args) four wd ts y left W stays),
          )
