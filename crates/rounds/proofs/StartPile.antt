-- A symbol that was pushed stands on the pile as appending needs it. Assumes nothing.
use mathlib.Core.Path.{◌≡◌, sym, ap, ◌∙◌}
use mathlib.Core.Bool.{true, false}
use mathlib.Core.List.{List, [], ◌∷◌, map}
use Prim.Native.Nat.{ℕ, ◌≤◌}
use native.Mathlib.Omega.{arith}
use Rattle.octets.specs.Plain.Numbers.{Bytes}
use Rattle.octets.proofs.LiesLaws.{lies_inside}
use Rattle.parse_tree.specs.Plain.Tree.{Text}
use Rattle.parse_tree.specs.Plain.Texts.{has}
use Rattle.parse_tree.specs.Working.Encode.{sym_bytes}
use Rattle.parse_tree.specs.Working.Within.{Each}
use Rattle.parse_tree.proofs.ItemFound.{sym_finds}
use Rattle.texts.specs.Table.{texts}
use Rattle.passes.specs.Outcome.{Tree}
use Rattle.laws.specs.Keys.{built_ins}
use Rattle.laws.proofs.Flat.{node_size}
use Rattle.replacing.specs.Trees.{inner, is_key}
use Rattle.replacing.specs.Prints.{print_at}
use Rattle.replacing.specs.Slots.{Ref, Slots, among}
use Rattle.replacing.specs.Sound.{HasRef, AllNoted}
use Rattle.replacing.proofs.TreesMean.{print-inner}
use Rattle.replacing.proofs.Keys.{sym_key}
use Rattle.replacing.proofs.SlotsMean.{among-here, among_later}
use Rattle.expander.specs.declared.Ground.{Ground}
use Rattle.expander.specs.Ground.{size_in, stage_in, symbol_in, printed_at, KeyAt, Grounded}
use Rattle.expander.specs.Replace.{keys_of, StandsAt}
use Rattle.expander.proofs.StageReads.{lies_whole, stage_length}
use Rattle.expander.proofs.KeysPlaces.{sym_keys}
use Rattle.expander.proofs.KeysLaws.{sym_length}
use Rattle.macro_expand.specs.Drain.{OnPile}
use Rattle.rounds.proofs.StartTrees.{key_expands, calls_inner, Fine}

each-among : (P : ℕ → Type 0) (xs : List ℕ) → ((q : ℕ) → among q xs ≡ true → P q) → Each P xs
each-among P [] f = tt
each-among P (x ∷ xs) f = (f x (among-here x xs), each-among P xs (λ q h. f q (among_later q x xs h)))

-- a symbol that is expanded stands at p
module _ (s w : List ℕ) (g : Ground) (e : Grounded s w g) (b : Bytes (stage_in w g)) (p : ℕ) (k : KeyAt s w g p) where
  pub key_own : is_key (symbol_in s w g p) ≡ true
  key_own = sym_key false g.width.bytes (stage_in w g) (texts s w g.m) b 63 p (symbol_in s w g p) k.end k.key k.read

  key_stands : StandsAt s w g false 64 p k.end (symbol_in s w g p)
  unfolding stage_in
  key_stands =
      let f = sym_finds false g.width.bytes (stage_in w g) (texts s w g.m) b e.distinct-texts 64 p (symbol_in s w g p) k.end k.read in
      record {
        within = f.within;
        lies = lies_whole w g.from g.end e.ordered e.inside p (sym_bytes g.width.bytes (texts s w g.m) (symbol_in s w g p)) k.end f.lies;
      }

  key_inside : k.end ≤ size_in g
  key_inside =
      let y = symbol_in s w g p in
      let ts = texts s w g.m in
      let f = sym_finds false g.width.bytes (stage_in w g) ts b e.distinct-texts 64 p y k.end k.read in
      let i = lies_inside (stage_in w g) p k.end (sym_bytes g.width.bytes ts y) (omega (arith, sym_length g.width.bytes ts y, node_size g.width.bytes ts y)) f.lies in
      omega (arith, stage_length s w g e)

  module _ (G : Tree) (fine : Fine G (inner (symbol_in s w g p))) where
    -- theorem: its print is no built-in text
    pub key_other : has (printed_at s w g p) built_ins ≡ false
    unfolding print_at
    key_other = ap (λ (t : Text). has t built_ins) (sym (print-inner (symbol_in s w g p) key_own)) ∙ fine.0

    -- theorem: where all inside it have references with it
    pub key_on_pile : (x : Slots) → AllNoted g.width.bytes (stage_in w g) x → HasRef p x → OnPile s w g (map (λ (r : ℕ × Ref). r.0) x.refs) G p
    key_on_pile x noted here = record {
      end = k.end;
      stands = key_stands;
      inside = key_inside;
      referred = each-among (λ (q : ℕ). HasRef q x) (keys_of g.width.bytes (texts s w g.m) (symbol_in s w g p) p)
          (noted p here (keys_of g.width.bytes (texts s w g.m) (symbol_in s w g p) p) k.end
          (sym_keys false g.width.bytes (stage_in w g) (texts s w g.m) b e.distinct-texts 64 p (symbol_in s w g p) k.end k.read));
      expands = key_expands (symbol_in s w g p) key_own;
      calls = calls_inner G (symbol_in s w g p) fine.1;
    }
