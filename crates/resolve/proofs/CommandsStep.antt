-- One step of the run over commands that stand in work: the command at the place says what it does, and how many steps are allowed doesn't matter. Assumes nothing.
use mathlib.Core.Path.{◌≡◌, refl, sym, ap, ◌∙◌}
use mathlib.Core.Bool.{Bool, true, false, cond}
use mathlib.Core.List.{List, [], ◌∷◌}
use mathlib.Core.Option.{Option as Maybe, none, some}
use Prim.Native.Nat.{ℕ, zero, suc, ◌+◌, ◌<◌, ◌≤◌}
use native.Mathlib.Omega.{arith}
use lib.Dec.{leb, eqb}
use lib.ListN.{length, get_or, set, length-append}
use borrow.Author.Tests.{lt-leb}
use Rattle.std.specs.Prelude.{Option, Some, None, Result, Ok, Err}
use Rattle.octets.specs.Working.Choice.{pick}
use Rattle.octets.specs.Plain.Numbers.{le_at}
use Rattle.octets.specs.Plain.Runs.{Lies}
use Rattle.octets.proofs.LiesLaws.{lies_first}
use Rattle.octets.proofs.NumbersLaws.{length-le}
use Rattle.parse_tree.specs.Working.Refusals.{number_of}
use Rattle.parse_tree.specs.declared.refusal.Question.{Question}
use Rattle.parse_tree.specs.Working.Nodes.{leaf_code, leaf_operand, symbol_bytes, node_bytes, span_in, long_of}
use Rattle.parse_tree.specs.Working.Within.{SpanWithin}
use Rattle.parse_tree.specs.declared.syntax.Span.{Span}
use Rattle.parse_tree.specs.declared.syntax.Leaf.{Leaf}
use Rattle.parse_tree.specs.declared.syntax.Around.{Around}
use Rattle.parse_tree.specs.declared.syntax.Over.{Over}
use Rattle.parse_tree.specs.declared.syntax.SymbolKind.{SymbolKind}
use Rattle.parse_tree.specs.declared.syntax.Node.{Node}
use Rattle.parse_tree.proofs.SizeLaws.{length_span}
use Rattle.parse_tree.proofs.NodeFits.{LeafFits, KindFits}
use Rattle.parse_tree.proofs.FieldLaws.{byte_read}
use Rattle.passes.specs.Resolve.{Def, terminal_def, nonterminal_def, argument_def}
use Rattle.laws.specs.Names.{State, fine, refused, ask_ambiguous, ask_nonterminal, ask_macro, ask_leaf, ask_over, ask_kind}
use Rattle.texts.specs.declared.Map.{Map}
use Rattle.resolve.specs.Cells.{known_at}
use Rattle.resolve.specs.Commands.{RunEnd, ran, stopped, becomes, stays, asked_at, asked_then, run_out}
use Rattle.resolve.proofs.CommandsCode.{run_end}
use Rattle.resolve.proofs.GrammarLaws.{named, named-last}
use Rattle.resolve.proofs.NamesMean.{meant, condition_code, nonterminal_code, macro_code, ambiguous_code, condition_says_lem, nonterminal_says_lem, macro_says_lem, ambiguous_says_lem}

-- ---- each step gets on: so the run is the same however many steps are allowed, if they are enough
large : (b : Bool) (x y : ℕ) → 0 < x → 0 < y → 0 < pick b x y
unfolding pick
large true x y h k = h
large false x y h k = k

long_some : (wd c : ℕ) → 0 < long_of wd c
unfolding long_of
long_some wd c =
    large _ _ _ (omega arith) (large _ _ _ (omega arith) (large _ _ _ (omega arith) (large _ _ _ (omega arith) (large _ _ _ (omega arith) (large _ _ _ (omega arith)
    (large _ _ _ (omega arith) (large _ _ _ (omega arith) (large _ _ _ (omega arith) (large _ _ _ (omega arith) (large _ _ _ (omega arith) (large _ _ _ (omega arith) (omega arith))))))))))))

same_turn : (b : Bool) (r : Result (Option ℕ) Question) (x y y' : RunEnd) (f f' : ℕ → RunEnd) (g : Question → RunEnd) → y ≡ y' → ((k : ℕ) → f k ≡ f' k) → pick b x (asked_then r y f g) ≡ pick b x (asked_then r y' f' g)
unfolding asked_then
same_turn b (Ok None) x y y' f f' g p q = cc
same_turn b (Ok (Some k)) x y y' f f' g p q = cc (q k)
same_turn b (Err n) x y y' f f' g p q = refl

pub enough : (m : Map) (wd f g : ℕ) (w : List ℕ) (p e : ℕ) → e ≤ f + p → e ≤ g + p → run_out m wd f w p e ≡ run_out m wd g w p e
unfolding run_out
enough m wd zero g w p e h k = sym (run_end m wd g w p e (omega arith))
enough m wd (suc f) zero w p e h k = run_end m wd (suc f) w p e (omega arith)
enough m wd (suc f) (suc g) w p e h k =
    let c = get_or w p 0 in
    let l = long_some wd (get_or w p 0) in
    let z : e ≤ f + (p + (9 + wd)) = omega arith in
    let y : e ≤ g + (p + (9 + wd)) = omega arith in
    same_turn (leb e p) (asked_at m wd w p c) (ran w) _ _ (λ k. run_out m wd f (set w p k) (p + (9 + wd)) e) (λ k. run_out m wd g (set w p k) (p + (9 + wd)) e) (λ q. stopped (number_of q) (span_in w (p + 1)))
    (enough m wd f g w (p + long_of wd (get_or w p 0)) e (omega arith) (omega arith))
    (λ k. enough m wd f g (set w p k) (p + (9 + wd)) e z y)

-- ---- the run up to e
module _ (m : Map) (wd e : ℕ) where
  abbrev pub up_to : List ℕ → ℕ → RunEnd
  up_to w p = run_out m wd e w p e

  pub up_to_end : (w : List ℕ) (p : ℕ) → e ≤ p → up_to w p ≡ ran w
  up_to_end w p h = run_end m wd e w p e h

  -- a step, by what the command there is answered
  turn : (w : List ℕ) (p c : ℕ) (a : Result (Option ℕ) Question) → p < e → get_or w p 0 ≡ c → asked_at m wd w p c ≡ a
      → up_to w p ≡ asked_then a (up_to w (p + long_of wd c)) (λ k. up_to (set w p k) (p + (9 + wd))) (λ q. stopped (number_of q) (span_in w (p + 1)))
  unfolding run_out pick
  turn w p c a h i j = enough m wd e (suc e) w p e (omega arith) (omega arith) ∙ simp (lt-leb e p h, i, j)

  -- a yes: on behind the command
  goes : (w : List ℕ) (p c d : ℕ) → p < e → get_or w p 0 ≡ c → asked_at m wd w p c ≡ Ok None → d ≡ p + long_of wd c → up_to w p ≡ up_to w d
  unfolding asked_then
  goes w p c d h i j z = turn w p c (Ok None) h i j ∙ ap (up_to w) (sym z)

  -- a command that is asked nothing
  pub passes : (w : List ℕ) (p d c : ℕ) (ys : List ℕ) → p < e → asked_at m wd w p c ≡ Ok None → long_of wd c ≡ 1 + length ys → Lies w p (c ∷ ys) d → up_to w p ≡ up_to w d
  passes w p d c ys h j z l = goes w p c d h (lies_first w p c ys d l).1 j (omega (arith, l.end))

  -- on behind a name that is answered a yes
  abbrev pub checked_then : Result (Unit {0}) Question → RunEnd → (Question → RunEnd) → RunEnd
  checked_then (Ok u) x g = x
  checked_then (Err q) x g = g q

  -- a condition; its span is sp
  pub condition_step : (w : List ℕ) (p d v : ℕ) (sp : Span) → p < e → get_or w p 0 ≡ 20 → span_in w (p + 1) ≡ sp → le_at wd w (p + 9) ≡ v → d ≡ p + (10 + wd + wd)
      → up_to w p ≡ checked_then (condition_code (meant (known_at m w v))) (up_to w d) (λ q. stopped (number_of q) sp)
  unfolding asked_at asked_then stays long_of pick condition_code
  condition_step w p d v sp h i s x z = go (meant (known_at m w v)) (rw x (ap stays (condition_says_lem (known_at m w v))))
    where
      go : (o : Maybe Def) → asked_at m wd w p 20 ≡ stays (condition_code o) → up_to w p ≡ checked_then (condition_code o) (up_to w d) (λ q. stopped (number_of q) sp)
      go none j = turn w p 20 (Err Question.Defined) h i j ∙ ap (stopped 8) s
      go (some terminal_def) j = turn w p 20 (Err Question.ConditionName) h i j ∙ ap (stopped 9) s
      go (some (nonterminal_def k)) j = turn w p 20 (Err Question.ConditionName) h i j ∙ ap (stopped 9) s
      go (some argument_def) j = goes w p 20 d h i j z

  -- ---- symbols: what is asked of one, and then on behind it
  abbrev pub state_then : State → (List ℕ → RunEnd) → RunEnd
  state_then (fine w) f = f w
  state_then (refused q sp w) f = stopped q sp

  module _ (w : List ℕ) (p d : ℕ) (h : p < e) (sp : Span) (s : span_in w (p + 1) ≡ sp) where
    ambiguous_step : (o : Maybe Def) → get_or w p 0 ≡ 32 → asked_at m wd w p 32 ≡ becomes (ambiguous_code o) → d ≡ p + (9 + wd) → up_to w p ≡ state_then (ask_ambiguous w p sp o) (λ w'. up_to w' d)
    unfolding ambiguous_code ask_ambiguous pick becomes asked_then
    ambiguous_step none i j z = turn w p 32 (Err Question.Defined) h i j ∙ ap (stopped 8) s
    ambiguous_step (some terminal_def) i j z = turn w p 32 (Ok (Some 33)) h i j ∙ ap (up_to (set w p 33)) (sym z)
    ambiguous_step (some (nonterminal_def zero)) i j z = turn w p 32 (Ok (Some 36)) h i j ∙ ap (up_to (set w p 36)) (sym z)
    ambiguous_step (some (nonterminal_def (suc k))) i j z = turn w p 32 (Err Question.AmbiguousId) h i j ∙ ap (stopped 13) s
    ambiguous_step (some argument_def) i j z = turn w p 32 (Ok (Some 36)) h i j ∙ ap (up_to (set w p 36)) (sym z)

    nonterminal_step : (o : Maybe Def) → get_or w p 0 ≡ 36 → asked_at m wd w p 36 ≡ stays (nonterminal_code o) → d ≡ p + (9 + wd) → up_to w p ≡ state_then (ask_nonterminal w sp o) (λ w'. up_to w' d)
    unfolding nonterminal_code ask_nonterminal pick long_of stays asked_then
    nonterminal_step none i j z = turn w p 36 (Err Question.Defined) h i j ∙ ap (stopped 8) s
    nonterminal_step (some terminal_def) i j z = turn w p 36 (Err Question.Nonterminal) h i j ∙ ap (stopped 10) s
    nonterminal_step (some (nonterminal_def zero)) i j z = goes w p 36 d h i j z
    nonterminal_step (some (nonterminal_def (suc k))) i j z = turn w p 36 (Err Question.Nonterminal) h i j ∙ ap (stopped 10) s
    nonterminal_step (some argument_def) i j z = goes w p 36 d h i j z

    macro_step : (n : ℕ) (o : Maybe Def) → get_or w p 0 ≡ 37 → asked_at m wd w p 37 ≡ stays (macro_code n o) → d ≡ p + (10 + wd) → up_to w p ≡ state_then (ask_macro w sp n o) (λ w'. up_to w' d)
    unfolding macro_code ask_macro pick long_of stays asked_then
    macro_step n none i j z = turn w p 37 (Err Question.Defined) h i j ∙ ap (stopped 8) s
    macro_step n (some terminal_def) i j z = turn w p 37 (Err Question.Macro) h i j ∙ ap (stopped 11) s
    macro_step n (some (nonterminal_def zero)) i j z = turn w p 37 (Err Question.Macro) h i j ∙ ap (stopped 11) s
    macro_step n (some (nonterminal_def (suc k))) i j z = go (eqb (suc k) n) j
      where
        go : (b : Bool) → asked_at m wd w p 37 ≡ stays (pick b (Ok tt) (Err Question.ArgumentCount)) → up_to w p ≡ state_then (cond b (fine w) (refused 12 sp w)) (λ w'. up_to w' d)
        go true j = goes w p 37 d h i j z
        go false j = turn w p 37 (Err Question.ArgumentCount) h i j ∙ ap (stopped 12) s
    macro_step n (some argument_def) i j z = turn w p 37 (Err Question.Macro) h i j ∙ ap (stopped 11) s

  -- where the cells say what `look` says
  module _ (look : ℕ → Maybe Def) (w : List ℕ) (sees : (k : ℕ) → meant (known_at m w k) ≡ look k) (p d : ℕ) (h : p < e) (sp : Span) (f : SpanWithin sp) where
    -- the name that is read there
    seen : (v : ℕ) → le_at wd w (p + 9) ≡ v → meant (known_at m w (le_at wd w (p + 9))) ≡ look v
    seen v z = rw z (sees v)

    leaf_step : (l : Leaf) → LeafFits wd l → Lies w p (symbol_bytes wd sp (SymbolKind.Leaf l)) d → up_to w p ≡ state_then (ask_leaf look w p sp l) (λ w'. up_to w' d)
    unfolding symbol_bytes leaf_code leaf_operand ask_leaf asked_at long_of pick
    leaf_step (Leaf.AmbiguousId a) k l =
        let x = named-last w wd p 32 sp a.0 d f k l in
        ambiguous_step w p d h sp x.span (look a.0) x.code (ap becomes (ambiguous_says_lem (known_at m w (le_at wd w (p + 9))) ∙ ap ambiguous_code (seen a.0 x.name))) (omega (arith, x.rest.end))
    leaf_step (Leaf.Bare a) k l = passes w p d 33 _ h refl (simp (length-append, length_span, length-le) (omega arith)) l
    leaf_step (Leaf.Quoted a) k l = passes w p d 34 _ h refl (simp (length-append, length_span, length-le) (omega arith)) l
    leaf_step (Leaf.Regex a) k l = passes w p d 35 _ h refl (simp (length-append, length_span, length-le) (omega arith)) l
    leaf_step (Leaf.Nonterminal a) k l =
        let x = named-last w wd p 36 sp a.0 d f k l in
        nonterminal_step w p d h sp x.span (look a.0) x.code (ap stays (nonterminal_says_lem (known_at m w (le_at wd w (p + 9))) ∙ ap nonterminal_code (seen a.0 x.name))) (omega (arith, x.rest.end))
    leaf_step Leaf.Lookahead k l = passes w p d 42 _ h refl (simp (length-append, length_span) (omega arith)) l
    leaf_step Leaf.Lookbehind k l = passes w p d 43 _ h refl (simp (length-append, length_span) (omega arith)) l
    leaf_step Leaf.Error k l = passes w p d 44 _ h refl (simp (length-append, length_span) (omega arith)) l

    pub symbol_step : (k : SymbolKind) → KindFits wd k → Lies w p (node_bytes wd (Node.Symbol sp k)) d → up_to w p ≡ state_then (ask_kind look w p sp k) (λ w'. up_to w' d)
    unfolding node_bytes symbol_bytes ask_over asked_at long_of pick
    symbol_step (SymbolKind.Leaf x) k l = leaf_step x k l
    symbol_step (SymbolKind.Around (Around.Repeat op)) k l = passes w p d 38 _ h refl (simp (length-append, length_span) (omega arith)) l
    symbol_step (SymbolKind.Around Around.Choose) k l = passes w p d 39 _ h refl (simp length_span (omega arith)) l
    symbol_step (SymbolKind.Around (Around.Name n a)) k l = passes w p d 40 _ h refl (simp (length-append, length_span, length-le) (omega arith)) l
    symbol_step (SymbolKind.Over (Over.Macro a n)) k l =
        let x = named w wd p 37 sp a.0 (n ∷ []) d f k.0 l in
        let y = byte_read w d (p + 9 + wd) (p + 10 + wd) (omega arith) x.rest in
        let z = seen a.0 x.name in
        macro_step w p d h sp x.span n (look a.0) x.code (ap stays (macro_says_lem (known_at m w (le_at wd w (p + 9))) (get_or w (p + 9 + wd) 0) ∙ cc (y.0, z))) (omega (arith, y.1.end))
    symbol_step (SymbolKind.Over (Over.Group n)) k l = passes w p d 41 _ h refl (simp (length-append, length_span, length-le) (omega arith)) l
