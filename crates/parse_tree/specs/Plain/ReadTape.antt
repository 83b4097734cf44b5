-- From a tape to its tree, in the order of document 01: "One pass over the tape asks 2, 3, 4 of each command before the next". Assumes nothing: these are definitions.
use Rattle.std.specs.Prelude.{ℕ, zero, suc, ◌+◌, ◌-◌, Bool, true, false, cond, ◌&&◌, ◌||◌, not, List, [], ◌∷◌, ◌++◌, eqb, ltb, leb, length, get_or}
use Rattle.std.proofs.Math.Option.{Option, none, some}
use Rattle.octets.specs.Plain.Numbers.{le_at}
use Rattle.octets.specs.Plain.Runs.{part}
use Rattle.parse_tree.specs.Plain.Tree.{Text, Op, Leaf, Around, Over, Sym, Action, Attribute, Condition, Alternative, Item, Stage, star, plus, question, ambiguous, bare, quoted, regex, nonterminal, lookahead, lookbehind, error, repeat, choose, name, macro, group, leaf, around, over, no_action, user, fallible, lookahead_action, lookbehind_action, extern, match, item, terminal, syms_of}
use Rattle.parse_tree.specs.Plain.Texts.{is_name, is_literal, is_ascii, has}
use Rattle.parse_tree.specs.Plain.Reading.{Reading, got, refused, then, times}
use Rattle.parse_tree.specs.declared.syntax.Span.{Span}

-- "op8 (0 `*`, 1 `+`, 2 `?`)"
abbrev pub op_of : ℕ → Op
op_of k = cond (eqb k 0) star (cond (eqb k 1) plus question)

-- "act8: 0 none, 1 User, 2 Fallible, 3 Lookahead, 4 Lookbehind"
abbrev pub action_of : ℕ → Text → Action
action_of k t = cond (eqb k 0) no_action (cond (eqb k 1) (user t) (cond (eqb k 2) (fallible t) (cond (eqb k 3) lookahead_action lookbehind_action)))

-- the first of a list of conditions, which has at most one
abbrev pub first_of : List Condition → Option Condition
first_of [] = none
first_of (c ∷ cs) = some c

-- what stands inside a symbol: nothing, one symbol, several
pub data Inner : Type 0 where
  alone : Leaf → Inner
  one : Around → Inner
  several : Over → ℕ → Inner

-- what a symbol's command says: its size, whether its operands are defined, whether its texts suit, what stands inside
pub record Command : Type 0 where
  pub size : ℕ
  pub good : Bool
  pub suits : Bool
  pub inner : Inner

-- s is the tape, whose atom numbers have w bytes; four says whether question 4 is asked
module _ (four : Bool) (w : ℕ) (s : List ℕ) where
  abbrev pub byte_at : ℕ → ℕ
  byte_at at = get_or s at 0

  -- "`s e` is a span, two 32-bit numbers"
  abbrev pub span_at : ℕ → Span
  span_at at = record { 0 = le_at 4 s at; 1 = le_at 4 s (at + 4) }

  -- a command of n bytes: "known, allowed there and whole? 2", "each operand defined, in its values .. nesting in bounds? 3", "each text suit its use? 4"
  unfoldable pub asked : {A : Type 0} → ℕ → ℕ → Bool → Bool → Reading A → Reading A
  asked at n good suits r = cond (ltb (length s - at) n) (refused 2 at) (cond good (cond (cond four suits true) r (refused 4 at)) (refused 3 at))

  module _ (ts : List Text) where
    -- an operand that names an atom, and the atom's text
    abbrev pub is_atom : ℕ → Bool
    is_atom at = ltb (le_at w s at) (length ts)

    abbrev pub text_at : ℕ → Text
    text_at at = get_or ts (le_at w s at) []

    -- ---- symbols: "20 ambiguous name16; 21 bare terminal name16; 22 quoted text16; 23 regex text16; 24 nonterminal name16; 25 macro name16 n8 (at least 1),
    -- arguments; 26 repeat op8, one symbol; 27 choose, one symbol; 28 name mut8 (0 or 1) name16, one symbol; 29 group n16, symbols; 2a `@L`; 2b `@R`; 2c error"
    abbrev pub text_leaf : ℕ → (Text → Bool) → (Text → Leaf) → Option Command
    text_leaf at class l = some (record { size = 9 + w; good = is_atom (at + 9); suits = class (text_at (at + 9)); inner = alone (l (text_at (at + 9))) })

    abbrev pub word_leaf : Leaf → Option Command
    word_leaf l = some (record { size = 9; good = true; suits = true; inner = alone l })

    unfoldable pub command_at : ℕ → Option Command
    command_at at =
        cond (eqb (byte_at at) 0x20) (text_leaf at is_name ambiguous)
        (cond (eqb (byte_at at) 0x21) (text_leaf at is_name bare)
        (cond (eqb (byte_at at) 0x22) (text_leaf at is_literal quoted)
        (cond (eqb (byte_at at) 0x23) (text_leaf at is_literal regex)
        (cond (eqb (byte_at at) 0x24) (text_leaf at is_name nonterminal)
        (cond (eqb (byte_at at) 0x25)
        (some (record {
          size = 10 + w;
          good = is_atom (at + 9) && leb 1 (byte_at (at + 9 + w));
          suits = is_name (text_at (at + 9));
          inner = several (macro (text_at (at + 9))) (byte_at (at + 9 + w));
        }))
        (cond (eqb (byte_at at) 0x26) (some (record { size = 10; good = leb (byte_at (at + 9)) 2; suits = true; inner = one (repeat (op_of (byte_at (at + 9)))) }))
        (cond (eqb (byte_at at) 0x27) (some (record { size = 9; good = true; suits = true; inner = one choose }))
        (cond (eqb (byte_at at) 0x28)
        (some (record {
          size = 10 + w;
          good = leb (byte_at (at + 9)) 1 && is_atom (at + 10);
          suits = is_name (text_at (at + 10));
          inner = one (name (eqb (byte_at (at + 9)) 1) (text_at (at + 10)));
        }))
        (cond (eqb (byte_at at) 0x29) (some (record { size = 11; good = true; suits = true; inner = several group (le_at 2 s (at + 9)) }))
        (cond (eqb (byte_at at) 0x2a) (word_leaf lookahead)
        (cond (eqb (byte_at at) 0x2b) (word_leaf lookbehind)
        (cond (eqb (byte_at at) 0x2c) (word_leaf error) none))))))))))))

    -- what stands inside, from e on; `inside` reads a symbol
    abbrev pub inner_at : (ℕ → Reading Sym) → Span → ℕ → Inner → Reading Sym
    inner_at inside sp e (alone l) = got (leaf sp l) e
    inner_at inside sp e (one a) = then (inside e) (λ x f. got (around sp a x) f)
    inner_at inside sp e (several o n) = then (times inside n e) (λ xs f. got (over sp o (syms_of xs)) f)

    -- "Symbols, each with `s e` first"; `left` levels of nesting are left
    abbrev pub symbol_from : (ℕ → Reading Sym) → ℕ → ℕ → Option Command → Reading Sym
    symbol_from inside left at none = refused 2 at
    symbol_from inside left at (some c) = asked at c.size (c.good && leb 1 left) c.suits (inner_at inside (span_at (at + 1)) (at + c.size) c.inner)

    unfoldable pub symbol_at : ℕ → ℕ → Reading Sym
    symbol_at zero at = symbol_from (λ p. refused 3 p) zero at (command_at at)
    symbol_at (suc left) at = symbol_from (symbol_at left) (suc left) at (command_at at)

    -- ---- "11 name16: an argument"
    unfoldable pub argument_at : ℕ → Reading Text
    argument_at at = cond (eqb (byte_at at) 0x11) (asked at (1 + w) (is_atom (at + 1)) (is_name (text_at (at + 1))) (got (text_at (at + 1)) (at + (1 + w)))) (refused 2 at)

    -- "13 id16 kind8 key16 value16: kind 1 is an argument that `get_arg_equal` answers, kind 0 (key and value 0, no atoms) one where it answers nothing"
    unfoldable pub attribute_at : ℕ → Reading Attribute
    attribute_at at =
        let given : Bool = eqb (byte_at (at + 1 + w)) 1 in
        let key : ℕ = at + 2 + w in
        let value : ℕ = at + 2 + w + w in
        cond (eqb (byte_at at) 0x13)
        (asked at (2 + w + w + w)
        (is_atom (at + 1) && (leb (byte_at (at + 1 + w)) 1 && cond given (is_atom key && is_atom value) (eqb (le_at w s key) 0 && eqb (le_at w s value) 0)))
        (is_name (text_at (at + 1)) && cond given (is_ascii (text_at key) && is_ascii (text_at value)) true)
        (got (record { id = text_at (at + 1); argument = cond given (some (text_at key, text_at value)) none }) (at + (2 + w + w + w))))
        (refused 2 at)

    -- "14 `s e` lhs16 op8 rhs16: condition; 0 equals, 1 not equals"
    unfoldable pub condition_at : ℕ → Reading Condition
    condition_at at =
        cond (eqb (byte_at at) 0x14)
        (asked at (10 + w + w)
        (is_atom (at + 9) && (leb (byte_at (at + 9 + w)) 1 && is_atom (at + 10 + w)))
        (is_name (text_at (at + 9)) && is_literal (text_at (at + 10 + w)))
        (got (record { span = span_at (at + 1); lhs = text_at (at + 9); equal = eqb (byte_at (at + 9 + w)) 0; rhs = text_at (at + 10 + w) }) (at + (10 + w + w))))
        (refused 2 at)

    -- "12 `s e` attrs8 cond8 act8 text16 syms16: alternative, then attributes, condition (cond8 is 0 or 1), symbols"; "text16 is 0 for 0, 3, 4 and
    -- names no atom then"; "Symbols nest at most 64 deep, one straight in an alternative being 1 deep"
    unfoldable pub alternative_at : ℕ → Reading Alternative
    alternative_at at =
        let act : ℕ = byte_at (at + 11) in
        let has_text : Bool = eqb act 1 || eqb act 2 in
        cond (eqb (byte_at at) 0x12)
        (asked at (14 + w)
        (leb (byte_at (at + 10)) 1 && (leb act 4 && cond has_text (is_atom (at + 12)) (eqb (le_at w s (at + 12)) 0)))
        (cond has_text (is_ascii (text_at (at + 12))) true)
        (then (times attribute_at (byte_at (at + 9)) (at + (14 + w))) (λ attributes e.
        then (times condition_at (byte_at (at + 10)) e) (λ conditions f.
        then (times (symbol_at 64) (le_at 2 s (at + 12 + w)) f) (λ symbols g.
        got (record { span = span_at (at + 1); attributes = attributes; condition = first_of conditions; action = action_of act (text_at (at + 12)); symbols = syms_of symbols }) g)))))
        (refused 2 at)

    -- "10 `s e` name16 flags8 args8 alts16: nonterminal (flags 1 inline, 2 pub, added together); then args, then alternatives. 30 `s e` name16: an
    -- extern terminal. 31 the same: a match terminal"
    unfoldable pub item_at : ℕ → Reading Item
    item_at at =
        let flags : ℕ = byte_at (at + 9 + w) in
        cond (eqb (byte_at at) 0x10)
        (asked at (13 + w) (is_atom (at + 9) && leb flags 3) (is_name (text_at (at + 9)))
        (then (times argument_at (byte_at (at + 10 + w)) (at + (13 + w))) (λ args e.
        then (times alternative_at (le_at 2 s (at + 11 + w)) e) (λ alternatives f.
        got (item (record { span = span_at (at + 1); name = text_at (at + 9); inline = eqb flags 1 || eqb flags 3; public = leb 2 flags; args = args; alternatives = alternatives })) f))))
        (cond (eqb (byte_at at) 0x30) (asked at (9 + w) (is_atom (at + 9)) (is_name (text_at (at + 9))) (got (terminal (span_at (at + 1)) extern (text_at (at + 9))) (at + (9 + w))))
        (cond (eqb (byte_at at) 0x31) (asked at (9 + w) (is_atom (at + 9)) (is_name (text_at (at + 9))) (got (terminal (span_at (at + 1)) match (text_at (at + 9))) (at + (9 + w)))) (refused 2 at)))

    -- items to the tape's end; there are fewer than n, since each has a byte
    unfoldable pub items_at : ℕ → ℕ → Reading (List Item)
    items_at zero at = got [] at
    items_at (suc n) at = elim (leb (length s) at) [ true ↦ got [] at | false ↦ then (item_at at) (λ i e. then (items_at n e) (λ is f. got (i ∷ is) f)) ]

  -- "01 n16, n bytes: the next atom. All atoms come first, no two equal"; ts are those before, and fewer than n come
  unfoldable pub atoms_at : ℕ → List Text → ℕ → Reading (List Text)
  atoms_at zero ts at = got ts at
  atoms_at (suc n) ts at =
      let k : ℕ = le_at 2 s (at + 1) in
      let t : Text = part (at + 3) (at + 3 + k) s in
      elim (eqb (byte_at at) 0x01 && not (ltb (length s - at) (3 + k))) [
        | true ↦ elim (has t ts) [ true ↦ refused 3 at | false ↦ atoms_at n (ts ++ (t ∷ [])) (at + 3 + k) ]
        | false ↦ got ts at
      ]

  -- a tape's atoms, then its items
  unfoldable pub read_tape : Reading Stage
  read_tape = then (atoms_at (length s) [] 0) (λ ts at. then (items_at ts (length s) at) (λ is e. got (record { atoms = ts; items = is }) e))
