-- The loop of settle_names: the names from the k-th on are settled, those before are described as they were. Assumes nothing.
use mathlib.Core.Path.{◌≡◌, refl, sym, ap, ◌∙◌}
use mathlib.Core.Bool.{false}
use mathlib.Core.Logic.{◌⊎◌, inl, inr}
use mathlib.Core.List.{List, [], ◌++◌, append-nil}
use Prim.Native.Nat.{ℕ, ◌+◌, ◌-◌, ◌*◌, ◌/◌, ◌<◌, ◌≤◌}
use native.Mathlib.Omega.{arith}
use lib.ListN.{length, get_or, length-append}
use Rattle.octets.specs.Plain.Runs.{Lies}
use Rattle.octets.proofs.LiesLaws.{lies_none}
use Rattle.parse_tree.specs.Plain.Tree.{Text}
use Rattle.parse_tree.specs.Working.Encode.{atom_bytes}
use Rattle.texts.specs.Atoms.{some_long}
use Rattle.texts.specs.declared.Map.{Map}
use Rattle.texts.specs.Fields.{mark_at}
use Rattle.texts.specs.Texts.{marked_text, Whole, Behind}
use Rattle.texts.specs.Table.{texts}
use Rattle.texts.proofs.TableStays.{le_at-agree, whole_stays, texts-stay}
use Rattle.precedence.specs.Names.{named_text}
use Rattle.precedence.proofs.NamesStays.{named-stays}
use Rattle.levels.specs.Fresh.{new_texts}
use Rattle.levels.specs.Settle.{name_bytes, base_of, NameReady, SettlingNames}
use Rattle.levels.proofs.FreshCode.{new_bytes_lem, new_size_lem, new_short, short_before}

-- record i says the text t, which stands from z on
pub record Told (s w : List ℕ) (m : Map) (i : ℕ) (t : Text) (z : ℕ) : Type 0 where
  pub whole : Whole s w (mark_at w m.base i)
  pub behind : Behind s z (mark_at w m.base i)
  pub text : marked_text s w (mark_at w m.base i) ≡ t

-- the names from the k-th on stand from q up to `end` in w'; of the records only their marks changed
pub record Going (s w : List ℕ) (m : Map) (n end k q : ℕ) (w' : List ℕ) : Type 0 where
  pub from : m.count ≤ k
  pub upto : k ≤ n
  pub long : length w' ≡ length w
  pub place : q + length (name_bytes s w m n) ≡ end + length (name_bytes s w m k)
  pub rest : List ℕ
  pub split : name_bytes s w m n ≡ name_bytes s w m k ++ rest
  pub lies : Lies w' q rest end
  pub told : (i : ℕ) → k ≤ i → i < n → Told s w' m i (named_text s w m i) q
  pub fields : (i j : ℕ) → i < n → m.base + 24 * i + 8 ≤ j → j < m.base + 24 * i + 24 → get_or w' j 0 ≡ get_or w j 0
  pub others : (j : ℕ) → (j < m.base + 24 * k) ⊎ ((m.base + 24 * n ≤ j) × (j < q)) ⊎ (end ≤ j) → get_or w' j 0 ≡ get_or w j 0

module _ (s w : List ℕ) (m : Map) (n end : ℕ) (h : SettlingNames s w m n end) where
  -- theorem: none yet
  pub going_start : Going s w m n end n end w
  going_start = record {
    from = h.naming.upto;
    upto = omega arith;
    long = refl;
    place = refl;
    rest = [];
    split = sym (append-nil (name_bytes s w m n));
    lies = lies_none w end;
    told = λ i a b. absurd (omega arith);
    fields = λ i j l a b. refl;
    others = λ j d. refl;
  }

  -- theorem: a text of the table stands on the tape
  pub table-on_tape : (i : ℕ) → i < m.count → mark_at w m.base i < 4 * length s
  table-on_tape i l = go ((h.on_tape (mark_at w m.base i + 4 * length s + 1)).above i l)
    where
      go : Behind s (mark_at w m.base i + 4 * length s + 1) (mark_at w m.base i) → mark_at w m.base i < 4 * length s
      go (inl a) = a
      go (inr a) = absurd (omega arith)

  module _ (k q : ℕ) (w1 : List ℕ) (x : Going s w m n end k q w1) where
    -- theorem: the marks before the k-th are as they were
    pub going_marks : (i : ℕ) → i < k → mark_at w1 m.base i ≡ mark_at w m.base i
    unfolding mark_at
    going_marks i l = le_at-agree 8 w w1 (m.base + 24 * i) (λ j a b. x.others j (inl (omega arith)))

    table-marks : (i : ℕ) → i < m.count → mark_at w1 m.base i ≡ mark_at w m.base i
    table-marks i l = going_marks i (omega (arith, x.from))

    -- theorem: the texts of the table are, whose bytes stand on the tape
    pub going_texts : texts s w1 m ≡ texts s w m
    unfolding texts
    going_texts = texts-stay s w w1 m.base m.count (length w) h.naming.whole (h.on_tape (length w)).above x.long (λ i a b. absurd (omega arith)) table-marks m.count (omega arith)

    pub going_whole : (i : ℕ) → i < m.count → Whole s w1 (mark_at w1 m.base i)
    going_whole = whole_stays s w w1 m.base m.count (length w) h.naming.whole (h.on_tape (length w)).above x.long (λ i a b. absurd (omega arith)) table-marks

    -- theorem: and so are the names before the k-th
    pub going_named : (i : ℕ) → i < k → named_text s w1 m i ≡ named_text s w m i
    going_named = named-stays s w w1 m k going_texts going_marks

    pub going_records : m.base + 24 * n + length (name_bytes s w m k) ≤ q
    going_records = omega (arith, h.records, x.place)

    pub going_far : 8 * length s + length (name_bytes s w m k) ≤ q
    going_far = omega (arith, h.far, x.place)

    pub going_upto : q ≤ end
    going_upto = omega (arith, x.place, ap length x.split, length-append (name_bytes s w m k) x.rest)

    -- ---- the one before
    module _ (j : ℕ) (e : k ≡ j + 1) (new : m.count ≤ j) where
      pub going_short : length (named_text s w m j) < 65536
      going_short =
          let z : n ≡ j + 1 + (n - (j + 1)) = omega (arith, x.upto) in
          let y : some_long (new_texts s w m (j + 1 + (n - (j + 1)))) ≡ false = ap (λ (i : ℕ). some_long (new_texts s w m i)) (sym z) ∙ h.short in
          omega (arith, new_short s w m j new (short_before s w m (j + 1) (n - (j + 1)) (omega arith) y))

      pub going_size : length (name_bytes s w m k) ≡ length (name_bytes s w m j) + (3 + length (named_text s w m j))
      unfolding name_bytes
      going_size = ap (λ (i : ℕ). length (name_bytes s w m i)) e ∙ new_size_lem s w m j new

      pub going_bytes : name_bytes s w m k ≡ name_bytes s w m j ++ atom_bytes 2 (named_text s w m j)
      unfolding name_bytes
      going_bytes = ap (name_bytes s w m) e ∙ new_bytes_lem s w m j new

      base_same : base_of w1 m j ≡ base_of w m j
      base_same = ap (λ (i : ℕ). i / 4294967296) (going_marks j (omega arith))

      base_small : base_of w m j < m.count
      base_small = h.naming.bases j new (omega (arith, x.upto))

      -- theorem: it can be settled
      pub going_ready : NameReady s w1 m j q
      going_ready =
          let t = ap length (going_named j (omega arith)) in
          record {
            new = new;
            base = rw base_same base_small;
            on_tape = rw (base_same, table-marks (base_of w m j) base_small) (table-on_tape (base_of w m j) base_small);
            whole = rw base_same (going_whole (base_of w m j) base_small);
            short = rw t going_short;
            behind = omega (arith, t, going_size, going_records, x.upto);
            far = omega (arith, t, going_size, going_far);
            inside = omega (arith, going_upto, h.inside, x.long);
          }
