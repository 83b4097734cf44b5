-- From a tape to its tree: questions 2, 3 and 4 of each command before the next. Assumes nothing: these are definitions.
use Rattle.std.specs.Prelude.{ℕ, zero, suc, ◌+◌, Bool, true, false, ◌&&◌, List, [], ◌∷◌, ◌++◌, length, leb, Option, Some, None}
use Rattle.octets.specs.Working.Choice.{pick}
use Rattle.octets.specs.Plain.Runs.{part}
use Rattle.parse_tree.specs.Plain.Tree.{Text, Sym, Attribute, Condition, Alternative, Item, Stage, syms_of}
use Rattle.parse_tree.specs.Plain.Texts.{has}
use Rattle.parse_tree.specs.Working.Nodes.{node_at, size_of}
use Rattle.parse_tree.specs.Working.Places.{class_of, allowed_at, items_place, arguments_place, alternatives_place, attributes_place, conditions_place, symbols_place}
use Rattle.parse_tree.specs.Working.Questions.{defined, suits}
use Rattle.parse_tree.specs.Plain.ReadTape.{first_of}
use Rattle.parse_tree.specs.Plain.Reading.{Reading, got, refused, then, times}
use Rattle.parse_tree.specs.Working.Expect.{expect_item, expect_argument, expect_alternative, expect_attribute, expect_condition, expect_symbol}
use Rattle.parse_tree.specs.Working.Operands.{text_of, leaf_of, around_of, over_of, inside_of, attribute_of, condition_of, alternative_of, nonterminal_of, terminal_of}
use Rattle.parse_tree.specs.declared.syntax.SymbolKind.{SymbolKind}
use Rattle.parse_tree.specs.declared.syntax.NonterminalData.{NonterminalData}
use Rattle.parse_tree.specs.declared.syntax.Alternative.{Alternative as AlternativeNode}
use Rattle.parse_tree.specs.declared.syntax.Node.{Node}

-- the tape s with atom numbers of w bytes; four says whether question 4 is asked
module _ (four : Bool) (w : ℕ) (s : List ℕ) where
  module _ (ts : List Text) where
    -- 2, 3 and 4 of a command that was read at a place, with `left` levels of nesting left; a yes is the command
    unfoldable pub ask_of : ℕ → ℕ → ℕ → Option Node → Reading Node
    ask_of place left at None = refused 2 at
    ask_of place left at (Some n) =
        pick (allowed_at place (class_of n))
        (pick (defined (length ts) n && leb 1 left)
        (pick (pick four (suits ts n) true)
        (got n (at + size_of w n))
        (refused 4 at))
        (refused 3 at))
        (refused 2 at)

    unfoldable pub ask : ℕ → ℕ → ℕ → Reading Node
    ask place left at = ask_of place left at (node_at w s at)

    -- a symbol, with what stands inside it
    unfoldable pub read_sym : ℕ → ℕ → Reading Sym
    read_sym zero at = then (ask symbols_place zero at) (λ n e. refused 3 at)
    read_sym (suc left) at =
        then (ask symbols_place (suc left) at)
        (expect_symbol at (λ sp k e. elim k [
          | SymbolKind.Leaf l ↦ got (Sym.leaf sp (leaf_of ts l)) e
          | SymbolKind.Around a ↦ then (read_sym left e) (λ x e'. got (Sym.around sp (around_of ts a) x) e')
          | SymbolKind.Over o ↦ then (times (λ p. read_sym left p) (inside_of o) e) (λ xs e'. got (Sym.over sp (over_of ts o) (syms_of xs)) e')
        ]))

    unfoldable pub read_argument : ℕ → Reading Text
    read_argument at = then (ask arguments_place 1 at) (expect_argument at (λ a e. got (text_of ts a.0) e))

    unfoldable pub read_attribute : ℕ → Reading Attribute
    read_attribute at = then (ask attributes_place 1 at) (expect_attribute at (λ a e. got (attribute_of ts a) e))

    unfoldable pub read_condition : ℕ → Reading Condition
    read_condition at = then (ask conditions_place 1 at) (expect_condition at (λ c e. got (condition_of ts c) e))

    -- "then attributes, condition (cond8 is 0 or 1), symbols"; "Symbols nest at most 64 deep, one straight in an alternative being 1 deep"
    unfoldable pub alternative_parts : AlternativeNode → ℕ → Reading Alternative
    alternative_parts a at =
        then (times read_attribute a.attributes at) (λ attrs e₁.
        then (times read_condition a.conditions e₁) (λ conds e₂.
        then (times (read_sym 64) a.symbols e₂) (λ syms e₃.
        got (alternative_of ts a attrs (first_of conds) (syms_of syms)) e₃)))

    unfoldable pub read_alternative : ℕ → Reading Alternative
    read_alternative at = then (ask alternatives_place 1 at) (expect_alternative at alternative_parts)

    -- "then args, then alternatives"
    unfoldable pub nonterminal_parts : NonterminalData → ℕ → Reading Item
    nonterminal_parts d at =
        then (times read_argument d.args at) (λ args e₁.
        then (times read_alternative d.alternatives e₁) (λ alts e₂.
        got (Item.item (nonterminal_of ts d args alts)) e₂))

    -- a nonterminal or a terminal
    unfoldable pub read_item : ℕ → Reading Item
    read_item at = then (ask items_place 1 at) (expect_item at nonterminal_parts (λ t e. got (terminal_of ts t) e))

    -- items to the tape's end; there are fewer than n, since each has a byte
    unfoldable pub read_items : ℕ → ℕ → Reading (List Item)
    read_items zero at = got [] at
    read_items (suc n) at = elim (leb (length s) at) [
      | true ↦ got [] at
      | false ↦ then (read_item at) (λ i e. then (read_items n e) (λ is e'. got (i ∷ is) e'))
    ]

  -- "01 n16, n bytes: the next atom. All atoms come first, no two equal"; ts are those before, and fewer than n come
  unfoldable pub read_atoms : ℕ → List Text → ℕ → Reading (List Text)
  read_atoms zero ts at = got ts at
  read_atoms (suc n) ts at = elim (node_at w s at) [
    | None ↦ got ts at
    | Some (Node.Text k) ↦ elim (has (part (at + 3) (at + 3 + k) s) ts) [
      | true ↦ refused 3 at
      | false ↦ read_atoms n (ts ++ (part (at + 3) (at + 3 + k) s ∷ [])) (at + 3 + k)
    ]
    | Some (Node.Nonterminal d) ↦ got ts at
    | Some (Node.Terminal t) ↦ got ts at
    | Some (Node.Argument a) ↦ got ts at
    | Some (Node.Alternative a) ↦ got ts at
    | Some (Node.Attribute a) ↦ got ts at
    | Some (Node.Condition c) ↦ got ts at
    | Some (Node.Symbol sp k) ↦ got ts at
  ]

  -- atoms, then items
  unfoldable pub decode_by : Reading Stage
  decode_by = then (read_atoms (length s) [] 0) (λ ts at. then (read_items ts (length s) at) (λ is e. got (record { atoms = ts; items = is }) e))

-- the tree of a grammar's tape, or the refusal 2, 3 or 4 and its place
unfoldable pub decode : List ℕ → Reading Stage
decode s = decode_by true 2 s

-- the tree of an expanded tape, whose names may be any texts: 4 is not asked
unfoldable pub decode_any : List ℕ → Reading Stage
decode_any s = decode_by false 2 s
