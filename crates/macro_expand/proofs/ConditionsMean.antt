-- What judging an alternative means: its condition is evaluated, or refused by 17. Assumes nothing.
use mathlib.Core.Path.{◌≡◌, refl, sym, ap, ◌∙◌, subst}
use mathlib.Core.Bool.{Bool, true, false, cond, not, false≢true}
use mathlib.Core.List.{List, [], ◌∷◌, ◌++◌, append-nil}
use mathlib.Core.Option.{Option, none, some}
use Prim.Native.Nat.{ℕ, zero, suc, ◌+◌, ◌≤◌, ◌<◌}
use native.Mathlib.Omega.{arith}
use borrow.Author.Tests.{lt-leb}
use lib.Dec.{eqb, leb}
use lib.ListN.{length, get_or, length-append}
use Rattle.octets.specs.Working.Choice.{pick}
use Rattle.octets.specs.Plain.Numbers.{le_at, le}
use Rattle.octets.specs.Plain.Runs.{Lies, same_as}
use Rattle.octets.proofs.LiesLaws.{lies_split, lies_first}
use Rattle.parse_tree.specs.Plain.Tree.{Text, Sym, Syms, ambiguous, bare, quoted, regex, nonterminal, lookahead, lookbehind, error, repeat, choose, name, macro, group, leaf, around, over, nil, Condition, Alternative, conditions}
use Rattle.parse_tree.specs.Plain.Texts.{has, number}
use Rattle.parse_tree.specs.Plain.WriteTape.{bytes_of_each}
use Rattle.parse_tree.specs.Working.Nodes.{span_in, node_bytes, symbol_bytes, leaf_code, leaf_operand}
use Rattle.parse_tree.specs.Working.Encode.{leaf_node, around_node, over_node, condition_node, condition_bytes, sym_bytes, syms_bytes}
use Rattle.parse_tree.specs.Working.Within.{Each, SymWithin, ConditionWithin, AlternativeWithin}
use Rattle.parse_tree.specs.declared.syntax.Span.{Span}
use Rattle.parse_tree.proofs.FieldLaws.{byte_read, le-read_last}
use Rattle.std.specs.Prelude.{Option as Maybe, Some, None, Result, Ok, Err}
use Rattle.texts.specs.Table.{texts}
use Rattle.passes.specs.Outcome.{Outcome, yes, no}
use Rattle.passes.specs.Macros.{argument_of, quoted_in, evaluate_cond}
use Rattle.laws.specs.Flat.{sym_node, children}
use Rattle.laws.proofs.Flat.{sym_bytes_lem, node_size}
use Rattle.laws.proofs.Rename.{number-tells}
use Rattle.resolve.proofs.GrammarLaws.{named, named-last}
use Rattle.grades.specs.Annotations.{conditions_from}
use Rattle.display.specs.Standing.{SymStands}
use Rattle.display.proofs.StandsLaws.{first_stands, none_stand}
use Rattle.replacing.specs.Trees.{renamed, renamed_all}
use Rattle.expander.specs.declared.Ground.{Ground}
use Rattle.expander.specs.Ground.{size_in}
use Rattle.expander.proofs.KeysLaws.{sym_length}
use Rattle.appending.specs.declared.Appended.{Appended}
use Rattle.macro_expand.specs.declared.arguments.Call.{Call}
use Rattle.macro_expand.specs.declared.arguments.NotLiteral.{NotLiteral}
use Rattle.macro_expand.specs.Arguments.{equal_by, argument_for, judged_by, judged_at, holds_at}
use Rattle.macro_expand.specs.PutIn.{Framed}
use Rattle.macro_expand.proofs.FrameLaws.{Answers, Finds, frame_finds, argument-renamed}
use Rattle.macro_expand.proofs.AlternativesTrees.{Parted}

abbrev pub outcome_of : Maybe Bool → Span → Outcome Bool
outcome_of (Some b) sp = yes b
outcome_of None sp = no 17 sp

-- of an alternative
abbrev pub told_by : List ℕ → Result Bool NotLiteral → Outcome Bool
told_by w (Ok b) = yes b
told_by w (Err r) = no 17 (span_in w (r.at + 1))

-- ---- a quoted literal
abbrev is_quoted : Sym → Bool
is_quoted (leaf s (ambiguous x)) = false
is_quoted (leaf s (bare x)) = false
is_quoted (leaf s (quoted x)) = true
is_quoted (leaf s (regex x)) = false
is_quoted (leaf s (nonterminal x)) = false
is_quoted (leaf s lookahead) = false
is_quoted (leaf s lookbehind) = false
is_quoted (leaf s error) = false
is_quoted (around s a x) = false
is_quoted (over s o xs) = false

code_quoted : (wd : ℕ) (ts : List Text) (w : List ℕ) (a d : ℕ) (y : Sym) → Lies w a (node_bytes wd (sym_node ts y)) d → eqb (get_or w a 0) 34 ≡ is_quoted y
unfolding sym_node leaf_node around_node over_node node_bytes symbol_bytes leaf_code
code_quoted wd ts w a d (leaf s (ambiguous x)) l = ap (λ (c : ℕ). eqb c 34) (lies_first w a 32 _ d l).1
code_quoted wd ts w a d (leaf s (bare x)) l = ap (λ (c : ℕ). eqb c 34) (lies_first w a 33 _ d l).1
code_quoted wd ts w a d (leaf s (quoted x)) l = ap (λ (c : ℕ). eqb c 34) (lies_first w a 34 _ d l).1
code_quoted wd ts w a d (leaf s (regex x)) l = ap (λ (c : ℕ). eqb c 34) (lies_first w a 35 _ d l).1
code_quoted wd ts w a d (leaf s (nonterminal x)) l = ap (λ (c : ℕ). eqb c 34) (lies_first w a 36 _ d l).1
code_quoted wd ts w a d (leaf s lookahead) l = ap (λ (c : ℕ). eqb c 34) (lies_first w a 42 _ d l).1
code_quoted wd ts w a d (leaf s lookbehind) l = ap (λ (c : ℕ). eqb c 34) (lies_first w a 43 _ d l).1
code_quoted wd ts w a d (leaf s error) l = ap (λ (c : ℕ). eqb c 34) (lies_first w a 44 _ d l).1
code_quoted wd ts w a d (around s (repeat o) x) l = ap (λ (c : ℕ). eqb c 34) (lies_first w a 38 _ d l).1
code_quoted wd ts w a d (around s choose x) l = ap (λ (c : ℕ). eqb c 34) (lies_first w a 39 _ d l).1
code_quoted wd ts w a d (around s (name m n) x) l = ap (λ (c : ℕ). eqb c 34) (lies_first w a 40 _ d l).1
code_quoted wd ts w a d (over s (macro n) xs) l = ap (λ (c : ℕ). eqb c 34) (lies_first w a 37 _ d l).1
code_quoted wd ts w a d (over s group xs) l = ap (λ (c : ℕ). eqb c 34) (lies_first w a 41 _ d l).1

none_quoted : (y : Sym) → is_quoted y ≡ false → quoted_in (some (renamed y)) ≡ none
unfolding renamed
none_quoted (leaf s (ambiguous x)) k = refl
none_quoted (leaf s (bare x)) k = refl
none_quoted (leaf s (quoted x)) k = absurd (false≢true (sym k))
none_quoted (leaf s (regex x)) k = refl
none_quoted (leaf s (nonterminal x)) k = refl
none_quoted (leaf s lookahead) k = refl
none_quoted (leaf s lookbehind) k = refl
none_quoted (leaf s error) k = refl
none_quoted (around s (repeat o) x) k = refl
none_quoted (around s choose x) k = refl
none_quoted (around s (name m n) x) k = refl
none_quoted (over s o xs) k = refl

-- ---- what is read of a condition
pub record Asks (wd : ℕ) (ts : List Text) (w : List ℕ) (q : ℕ) (k : Condition) : Type 0 where
  pub span : span_in w (q + 1) ≡ k.span
  pub lhs : le_at wd w (q + 9) ≡ number ts k.lhs
  pub op : get_or w (q + 9 + wd) 0 ≡ pick k.equal 0 1
  pub rhs : le_at wd w (q + 10 + wd) ≡ number ts k.rhs

asks : (four : Bool) (wd : ℕ) (ts : List Text) (w : List ℕ) (q d : ℕ) (k : Condition) → ConditionWithin four wd ts k → Lies w q (condition_bytes wd ts k) d → Asks wd ts w q k
unfolding condition_bytes condition_node node_bytes
asks four wd ts w q d k h l =
    let N = named w wd q 20 k.span (number ts k.lhs) (pick k.equal 0 1 ∷ le wd (number ts k.rhs)) d h.span h.lhs.1 l in
    let b = byte_read w d (q + 9 + wd) (q + 10 + wd) (omega arith) N.rest in
    record { span = N.span; lhs = N.name; op = b.0; rhs = (le-read_last w d (q + 10 + wd) wd h.rhs.1 b.1).0 }

equal_means : (wd : ℕ) (ts : List Text) (w : List ℕ) (p q : ℕ) (k : Condition) (t : Text) → Asks wd ts w q k → has k.rhs ts ≡ true → le_at wd w (p + 9) ≡ number ts t
    → equal_by wd w p q ≡ cond k.equal (same_as t k.rhs) (not (same_as t k.rhs))
unfolding equal_by pick
equal_means wd ts w p q k t A h e = rw (e, A.rhs, number-tells ts k.rhs t h, A.op) (go k.equal (same_as t k.rhs))
  where
    go : (b c : Bool) → pick c (eqb (pick b 0 1) 0) (pick (eqb (pick b 0 1) 0) false true) ≡ cond b c (not c)
    go true true = refl
    go true false = refl
    go false true = refl
    go false false = refl

condition_long : (wd : ℕ) (ts : List Text) (k : Condition) → 1 ≤ length (condition_bytes wd ts k)
unfolding condition_bytes condition_node node_bytes
condition_long wd ts k = omega arith

module _ (g : Ground) (o : g.from ≤ g.end) where
  size_inside : (i : ℕ) → i ≤ size_in g → g.from + i ≤ g.end
  unfolding size_in
  size_inside i l = omega arith

module _ (s w : List ℕ) (g : Ground) (n lim : ℕ) (c : Call) (v : Appended) (ps : List ℕ) (names : List Text) (args : Syms) (F : Framed s w g n lim c v ps names args) where
  abbrev ts : List Text
  ts = texts s w g.m

  abbrev wd : ℕ
  wd = g.width.bytes

  -- ---- the argument's symbol
  abbrev said : Condition → Option Text → Outcome Bool
  said k o = elim o [ none ↦ no 17 k.span | some t ↦ yes (cond k.equal (same_as t k.rhs) (not (same_as t k.rhs))) ]

  module _ (q p : ℕ) (k : Condition) (d left : ℕ) (four : Bool) (A : Asks wd ts w q k) (h : has k.rhs ts ≡ true) (z : leb g.end p ≡ false) where
    code : (x : Sym) → SymStands s w g.m wd four left p d x → eqb (get_or w p 0) 34 ≡ is_quoted x
    code x S =
        let b = subst (λ (l : List ℕ). Lies w p l d) (sym_bytes_lem wd ts x) S.lies in
        code_quoted wd ts w p _ x (lies_split w p d (node_bytes wd (sym_node ts x)) (syms_bytes wd ts (children x)) b).0

    other : (x : Sym) → SymStands s w g.m wd four left p d x → is_quoted x ≡ false → outcome_of (judged_by g w q (Some p)) k.span ≡ said k (quoted_in (some (renamed x)))
    unfolding judged_by pick
    other x S e =
        let b : outcome_of (judged_by g w q (Some p)) k.span ≡ no 17 k.span = rw (z, code x S, e) refl in
        b ∙ sym (ap (said k) (none_quoted x e))

    word : (sp : Span) (t : Text) (l : ℕ) → SymWithin four wd ts (leaf sp (quoted t)) l → Lies w p (sym_bytes wd ts (leaf sp (quoted t))) d → le_at wd w (p + 9) ≡ number ts t
    unfolding sym_bytes node_bytes symbol_bytes leaf_node leaf_code leaf_operand
    word sp t zero W l = absurd W
    word sp t (suc i) W l = (named-last w wd p 34 sp (number ts t) d W.0 W.1.1 l).name

    literal : (sp : Span) (t : Text) → SymStands s w g.m wd four left p d (leaf sp (quoted t)) → outcome_of (judged_by g w q (Some p)) k.span ≡ said k (quoted_in (some (renamed (leaf sp (quoted t)))))
    unfolding judged_by pick renamed
    literal sp t S = rw (z, code (leaf sp (quoted t)) S) (ap (λ (b : Bool). yes b) (equal_means wd ts w p q k t A h (word sp t left S.within S.lies)))

    -- theorem: what is said of it
    argument-means : (x : Sym) → SymStands s w g.m wd four left p d x → outcome_of (judged_by g w q (Some p)) k.span ≡ said k (quoted_in (some (renamed x)))
    argument-means (leaf sp (ambiguous t)) S = other (leaf sp (ambiguous t)) S refl
    argument-means (leaf sp (bare t)) S = other (leaf sp (bare t)) S refl
    argument-means (leaf sp (quoted t)) S = literal sp t S
    argument-means (leaf sp (regex t)) S = other (leaf sp (regex t)) S refl
    argument-means (leaf sp (nonterminal t)) S = other (leaf sp (nonterminal t)) S refl
    argument-means (leaf sp lookahead) S = other (leaf sp lookahead) S refl
    argument-means (leaf sp lookbehind) S = other (leaf sp lookbehind) S refl
    argument-means (leaf sp error) S = other (leaf sp error) S refl
    argument-means (around sp a x) S = other (around sp a x) S refl
    argument-means (over sp o xs) S = other (over sp o xs) S refl

  -- by what was found
  found_means : (q : ℕ) (k : Condition) → Asks wd ts w q k → has k.rhs ts ≡ true → (f : Maybe ℕ) (o : Option Sym) → Finds s w g ps F.four F.left f o
      → outcome_of (judged_by g w q f) k.span ≡ said k (quoted_in (elim o [ none ↦ none | some x ↦ some (renamed x) ]))
  unfolding judged_by
  found_means q k A h None none N = refl
  found_means q k A h None (some x) N = absurd N
  found_means q k A h (Some p) none N = absurd N
  found_means q k A h (Some p) (some x) N =
      let R = N.referring in
      let f = first_stands s w g.m wd F.four F.left (g.from + N.from) (g.from + N.end) x nil R.stand in
      let e = none_stand s w g.m wd F.four F.left _ (g.from + N.end) f.1 in
      let S = subst (λ (i : ℕ). SymStands s w g.m wd F.four F.left i (g.from + N.end) x) (sym N.at) (subst (λ (i : ℕ). SymStands s w g.m wd F.four F.left (g.from + N.from) i x) e f.0) in
      argument-means q p k (g.from + N.end) F.left F.four A h (lt-leb g.end p (below N S)) x S
    where
      below : (M : Answers s w g ps F.four F.left p x) → SymStands s w g.m wd F.four F.left p (g.from + M.end) x → p < g.end
      below M S = omega (arith, S.lies.end, sym_length wd ts x, node_size wd ts x, size_inside g F.going.ground.ordered M.end M.referring.inside)

  -- theorem: a condition that stands there
  judged-means : (q d : ℕ) (k : Condition) (four : Bool) → ConditionWithin four wd ts k → Lies w q (condition_bytes wd ts k) d → q < c.end
      → (evaluate_cond names (renamed_all args) (some k) ≡ outcome_of (judged_at g c w q) (span_in w (q + 1)))
  unfolding judged_at pick
  judged-means q d k four W l i =
      let A = asks four wd ts w q d k W l in
      let r : judged_at g c w q ≡ judged_by g w q (argument_for g c w (le_at wd w (q + 9))) = rw (lt-leb c.end q i) refl in
      ap (λ (o : Option Sym). said k (quoted_in o)) (argument-renamed names args k.lhs)
      ∙ sym (found_means q k A W.rhs.0 (argument_for g c w (le_at wd w (q + 9))) (argument_of names args k.lhs) (frame_finds s w g n lim c v ps names args F k.lhs (le_at wd w (q + 9)) A.lhs))
      ∙ ap (λ (j : Maybe Bool). outcome_of j k.span) (sym r)
      ∙ ap (outcome_of (judged_at g c w q)) (sym A.span)

  told_is : (o : Maybe Bool) (q : ℕ) → told_by w (elim o [ Some b ↦ Ok b | None ↦ Err (record { at = q }) ]) ≡ outcome_of o (span_in w (q + 1))
  told_is (Some b) q = refl
  told_is None q = refl

  -- theorem: an alternative that stands at p
  pub holds-means : (p e : ℕ) (a : Alternative) (four : Bool) → AlternativeWithin four wd ts a → Parted four wd ts w p e a → e ≤ c.end
      → evaluate_cond names (renamed_all args) a.condition ≡ told_by w (holds_at g c w p)
  unfolding holds_at pick bytes_of_each
  holds-means p e a four W D u = go a.condition W.condition D.asked D.condition
    where
      go : (o : Option Condition) → Each (ConditionWithin four wd ts) (conditions o) → get_or w (p + 10) 0 ≡ length (conditions o) → Lies w (conditions_from wd w p) (bytes_of_each (condition_bytes wd ts) (conditions o) ++ syms_bytes wd ts a.symbols) e
          → evaluate_cond names (renamed_all args) o ≡ told_by w (holds_at g c w p)
      go none h i l = rw i refl
      go (some k) h i l =
          let b = lies_split w (conditions_from wd w p) e (condition_bytes wd ts k ++ []) (syms_bytes wd ts a.symbols) l in
          let m = subst (λ (x : List ℕ). Lies w (conditions_from wd w p) x (conditions_from wd w p + length (condition_bytes wd ts k ++ []))) (append-nil (condition_bytes wd ts k)) b.0 in
          let r : told_by w (holds_at g c w p) ≡ outcome_of (judged_at g c w (conditions_from wd w p)) (span_in w (conditions_from wd w p + 1)) = rw i (told_is (judged_at g c w (conditions_from wd w p)) (conditions_from wd w p)) in
          judged-means (conditions_from wd w p) _ k four h.0 m (omega (arith, b.1.end, condition_long wd ts k, length-append (condition_bytes wd ts k) [])) ∙ sym r
