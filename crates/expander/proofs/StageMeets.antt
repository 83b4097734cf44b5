-- What the tests of a command's code decide: which turn of the run is to come. Room for what it writes. Assumes nothing.
use mathlib.Core.Path.{◌≡◌, refl, sym, ap, ◌∙◌}
use mathlib.Core.Bool.{Bool, true, false, not, false≢true}
use mathlib.Core.Logic.{inl, inr}
use mathlib.Core.List.{List}
use Prim.Native.Nat.{ℕ, zero, suc, ◌+◌, ◌-◌, ◌*◌, ◌<◌, ◌≤◌}
use native.Mathlib.Omega.{arith}
use borrow.Author.Tests.{eqb-true}
use lib.Dec.{eqb, ltb}
use lib.ListN.{length, get_or}
use Rattle.std.specs.Prelude.{Option as Optional, Some, None}
use Rattle.octets.specs.Working.Choice.{pick}
use Rattle.parse_tree.specs.Plain.Tree.{Text}
use Rattle.parse_tree.specs.Working.Nodes.{code_size, node_at, size_read}
use Rattle.parse_tree.specs.declared.syntax.Node.{Node}
use Rattle.parse_tree.proofs.CodeSizes.{size_16}
use Rattle.replacing.specs.Runs.{plain, is_macro, hops}
use Rattle.replacing.specs.Sound.{Firm}
use Rattle.expander.specs.declared.Ground.{Ground}
use Rattle.expander.specs.Ground.{size_in, stage_in, Grounded}
use Rattle.expander.specs.Replace.{expanded_code}
use Rattle.expander.specs.Stage.{macro_at, WholeAt, Hopping, Walks}
use Rattle.expander.proofs.KnownCodes.{whole_macro, whole_plain, key_code_lem}
use Rattle.expander.proofs.StageCode.{stage_byte}

-- ---- room: each nine bytes of items may become 9 + wd
module _ (to m n lim : ℕ) where
  less_two : 9 * to + (9 + 2) * m ≤ 9 * lim → n ≤ m → 9 * to + (9 + 2) * n ≤ 9 * lim
  less_two h k = omega arith

  less_three : 9 * to + (9 + 3) * m ≤ 9 * lim → n ≤ m → 9 * to + (9 + 3) * n ≤ 9 * lim
  less_three h k = omega arith

  -- fewer bytes are left
  pub room_less : (wd : ℕ) → 2 ≤ wd → wd ≤ 3 → 9 * to + (9 + wd) * m ≤ 9 * lim → n ≤ m → 9 * to + (9 + wd) * n ≤ 9 * lim
  room_less zero a b h k = absurd (omega arith)
  room_less (suc zero) a b h k = absurd (omega arith)
  room_less (suc (suc zero)) a b h k = less_two h k
  room_less (suc (suc (suc zero))) a b h k = less_three h k
  room_less (suc (suc (suc (suc i)))) a b h k = absurd (omega arith)

  copy_two : (i : ℕ) → 9 * to + (9 + 2) * m ≤ 9 * lim → n + i ≤ m → 9 * (to + i) + (9 + 2) * n ≤ 9 * lim
  copy_two i h k = omega arith

  copy_three : (i : ℕ) → 9 * to + (9 + 3) * m ≤ 9 * lim → n + i ≤ m → 9 * (to + i) + (9 + 3) * n ≤ 9 * lim
  copy_three i h k = omega arith

  -- as many were written as read
  pub room_copy : (wd i : ℕ) → 2 ≤ wd → wd ≤ 3 → 9 * to + (9 + wd) * m ≤ 9 * lim → n + i ≤ m → 9 * (to + i) + (9 + wd) * n ≤ 9 * lim
  room_copy zero i a b h k = absurd (omega arith)
  room_copy (suc zero) i a b h k = absurd (omega arith)
  room_copy (suc (suc zero)) i a b h k = copy_two i h k
  room_copy (suc (suc (suc zero))) i a b h k = copy_three i h k
  room_copy (suc (suc (suc (suc j)))) i a b h k = absurd (omega arith)

  key_two : 9 * to + (9 + 2) * m ≤ 9 * lim → n + 9 ≤ m → 9 * (to + 9 + 2) + (9 + 2) * n ≤ 9 * lim
  key_two h k = omega arith

  key_three : 9 * to + (9 + 3) * m ≤ 9 * lim → n + 9 ≤ m → 9 * (to + 9 + 3) + (9 + 3) * n ≤ 9 * lim
  key_three h k = omega arith

  -- 9 + wd were written for nine or more
  pub room_key : (wd : ℕ) → 2 ≤ wd → wd ≤ 3 → 9 * to + (9 + wd) * m ≤ 9 * lim → n + 9 ≤ m → 9 * (to + 9 + wd) + (9 + wd) * n ≤ 9 * lim
  room_key zero a b h k = absurd (omega arith)
  room_key (suc zero) a b h k = absurd (omega arith)
  room_key (suc (suc zero)) a b h k = key_two h k
  room_key (suc (suc (suc zero))) a b h k = key_three h k
  room_key (suc (suc (suc (suc i)))) a b h k = absurd (omega arith)

-- where it goes up to
pub room_upto : (to n lim : ℕ) → 9 * to + n ≤ 9 * lim → to ≤ lim
room_upto to n lim h = omega arith

-- ---- whether the definition of a macro begins there
pub macro_stage : (s w : List ℕ) (g : Ground) → Grounded s w g → (p c : ℕ) → p + code_size g.width.bytes c ≤ size_in g → macro_at g.width.bytes w (g.from + p) c ≡ macro_at g.width.bytes (stage_in w g) p c
unfolding macro_at pick
macro_stage s w g G p c l = go (eqb c 16) refl
  where
    go : (b : Bool) → eqb c 16 ≡ b → pick b (ltb 0 (get_or w (g.from + p + 10 + g.width.bytes) 0)) false ≡ pick b (ltb 0 (get_or (stage_in w g) (p + 10 + g.width.bytes) 0)) false
    go false e = refl
    go true e =
        let z = size_16 g.width.bytes c (eqb-true c 16 e) in
        let i : g.from + (p + 10 + g.width.bytes) ≡ g.from + p + 10 + g.width.bytes = omega arith in
        ap (λ (v : ℕ). pick true (ltb 0 v) false) (ap (λ (k : ℕ). get_or w k 0) (sym i) ∙ sym (stage_byte s w g G (p + 10 + g.width.bytes) (omega arith)))

-- ---- the turns
macro_plain : (n : Optional Node) → is_macro n ≡ true → plain n ≡ true
unfolding is_macro plain
macro_plain (Some (Node.Text k)) e = absurd (false≢true e)
macro_plain (Some (Node.Nonterminal d)) e = refl
macro_plain (Some (Node.Terminal d)) e = refl
macro_plain (Some (Node.Argument a)) e = refl
macro_plain (Some (Node.Alternative a)) e = refl
macro_plain (Some (Node.Attribute a)) e = refl
macro_plain (Some (Node.Condition c)) e = refl
macro_plain (Some (Node.Symbol s k)) e = absurd (false≢true e)
macro_plain None e = absurd (false≢true e)

-- a symbol that is expanded is no definition
pub key_no_macro : (n : Optional Node) → plain n ≡ false → is_macro n ≡ false
key_no_macro n e = go (is_macro n) refl
  where
    go : (b : Bool) → is_macro n ≡ b → b ≡ false
    go true i = absurd (false≢true (sym e ∙ macro_plain n i))
    go false i = refl

module _ (wd : ℕ) (t : List ℕ) (ts : List Text) where
  pub record KeyMeets (k p : ℕ) : Type 0 where
    pub turns : ℕ
    pub firm : Firm false wd t ts p
    pub inside : firm.end ≤ length t
    pub some : 1 ≤ k
    pub next : Walks wd t ts turns (k - 1) firm.end

  pub record MacroMeets (k p : ℕ) : Type 0 where
    pub turns : ℕ
    pub macro : is_macro (node_at wd t p) ≡ true
    pub whole : WholeAt wd t p
    pub many : ℕ
    pub hopping : Hopping wd t many (p + size_read wd (node_at wd t p))
    pub next : Walks wd t ts turns k (hops wd t (length t) (p + size_read wd (node_at wd t p)))

  pub record CopyMeets (k p : ℕ) : Type 0 where
    pub turns : ℕ
    pub copied : plain (node_at wd t p) ≡ true
    pub macro : is_macro (node_at wd t p) ≡ false
    pub whole : WholeAt wd t p
    pub next : Walks wd t ts turns k (p + size_read wd (node_at wd t p))

  -- a command that is copied, or a definition, has none of the codes of symbols that are expanded
  no_key : (p : ℕ) → WholeAt wd t p → plain (node_at wd t p) ≡ true → expanded_code (get_or t p 0) ≡ true → ⊥
  no_key p w a e = false≢true (sym (whole_plain wd t p w ∙ ap not e) ∙ a)

  key_not : (p : ℕ) → Firm false wd t ts p → expanded_code (get_or t p 0) ≡ false → ⊥
  key_not p f e = false≢true (sym e ∙ key_code_lem wd t p f.key)

  pub meets_key : (n k p : ℕ) → Walks wd t ts n k p → p < length t → expanded_code (get_or t p 0) ≡ true → KeyMeets k p
  unfolding Walks
  meets_key zero k p h l e = absurd (omega arith)
  meets_key (suc n) k p (inl h) l e = absurd (omega arith)
  meets_key (suc n) k p (inr (inl (a, b, w, h))) l e = absurd (no_key p w a e)
  meets_key (suc n) k p (inr (inr (inl (m, w, o, h)))) l e = absurd (no_key p w (macro_plain (node_at wd t p) m) e)
  meets_key (suc n) k p (inr (inr (inr (f, i, s, h)))) l e = record { turns = n; firm = f; inside = i; some = s; next = h }

  pub meets_whole : (n k p : ℕ) → Walks wd t ts n k p → p < length t → expanded_code (get_or t p 0) ≡ false → WholeAt wd t p
  unfolding Walks
  meets_whole zero k p h l e = absurd (omega arith)
  meets_whole (suc n) k p (inl h) l e = absurd (omega arith)
  meets_whole (suc n) k p (inr (inl (a, b, w, h))) l e = w
  meets_whole (suc n) k p (inr (inr (inl (m, w, o, h)))) l e = w
  meets_whole (suc n) k p (inr (inr (inr (f, i, s, h)))) l e = absurd (key_not p f e)

  pub meets_macro : (n k p : ℕ) → Walks wd t ts n k p → p < length t → expanded_code (get_or t p 0) ≡ false → macro_at wd t p (get_or t p 0) ≡ true → MacroMeets k p
  unfolding Walks
  meets_macro zero k p h l e d = absurd (omega arith)
  meets_macro (suc n) k p (inl h) l e d = absurd (omega arith)
  meets_macro (suc n) k p (inr (inl (a, b, w, h))) l e d = absurd (false≢true (sym b ∙ whole_macro wd t p w ∙ d))
  meets_macro (suc n) k p (inr (inr (inl (m, w, o, h)))) l e d = record { turns = n; macro = m; whole = w; many = o.0; hopping = o.1; next = h }
  meets_macro (suc n) k p (inr (inr (inr (f, i, s, h)))) l e d = absurd (key_not p f e)

  pub meets_copy : (n k p : ℕ) → Walks wd t ts n k p → p < length t → expanded_code (get_or t p 0) ≡ false → macro_at wd t p (get_or t p 0) ≡ false → CopyMeets k p
  unfolding Walks
  meets_copy zero k p h l e d = absurd (omega arith)
  meets_copy (suc n) k p (inl h) l e d = absurd (omega arith)
  meets_copy (suc n) k p (inr (inl (a, b, w, h))) l e d = record { turns = n; copied = a; macro = b; whole = w; next = h }
  meets_copy (suc n) k p (inr (inr (inl (m, w, o, h)))) l e d = absurd (false≢true (sym (whole_macro wd t p w ∙ d) ∙ m))
  meets_copy (suc n) k p (inr (inr (inr (f, i, s, h)))) l e d = absurd (key_not p f e)
