-- The levelled tree derives what the resolved tree derives. Assumes nothing.
use mathlib.Core.Path.{◌≡◌, refl, sym, ap, ◌∙◌, subst}
use mathlib.Core.Logic.{◌⊎◌, inl, inr, ◌≢◌, ◌↔◌}
use Prim.Native.Nat.{ℕ, zero, suc, ◌≤◌, ◌<◌}
use mathlib.Core.List.{List, [], ◌∷◌, ◌++◌, Memᴰ, append-nil}
use mathlib.Core.Option.{Option, none, some}
use mathlib.Core.Bool.{true, false, false≢true}
use native.Mathlib.Omega.{arith}
use native.Mathlib.Decide.{dec_lt}
use Rattle.parse_tree.specs.Plain.Tree.{Text, Alternative, Nonterminal, item}
use Rattle.passes.specs.Outcome.{Tree}
use Rattle.passes.specs.Grades.{annotated, Graded, graded}
use Rattle.meaning.specs.Phrases.{Token, Phrase, Phrases, token, reference, call, pnil, pcons, DerivesFrom, DeriveFrom, d_token, d_step, d_nil, d_cons}
use Rattle.meaning.specs.Meaning.{mean, means, puts, Under, own, Step, s_plain, s_level, s_call, s_sequence, s_question_none, s_question_one, s_star_none, s_star_plus, s_plus_one, s_plus_more, Derives, DerivesExpanded, below}
use Rattle.passes.specs.Levels.{levelled}
use Rattle.meaning.specs.Premises.{HasItem}
use Rattle.meaning.proofs.Basics.{test}
use Rattle.meaning.proofs.Predicates.{Okays, Resolved}
use Rattle.meaning.proofs.Simulation.{All2, a_nil, a_cons, simulate}
use Rattle.meaning.proofs.Levels.LevelFacts.{Level, highest, highest_max, has-highest, below-max, below-level, not_lowest, Sided}
use Rattle.meaning.proofs.Levels.LevelForms.{name_at, substitute_at, fall_at, level_item, highest_name}
use Rattle.meaning.proofs.Levels.LevelItems.{levelled-plain, levelled-at, Origin, levelled-only, level_args, level_have, level_falls, LevelAlternative, level_only}
use Rattle.meaning.proofs.Levels.LevelPhrases.{graded-okay, Answers, AnswersAll, l_token, l_parameter, l_reference, l_ceiling, l_call, l_repeated, l_sequence, Answered, all_answer, all_answered, means_answer, puts_answer, holds-alike, level_named, own-answers}

-- no annotated nonterminal takes arguments
abbrev pub Argumentless : Tree → Type 0
Argumentless R = (d : Nonterminal) → Memᴰ (item d) R → annotated d ≡ true → d.args ≡ []

-- the lowest levels have only `all`
abbrev pub AllSided : Tree → Type 0
AllSided R = (d : Nonterminal) → Memᴰ (item d) R → annotated d ≡ true → Sided d

single : (S : Phrase → Phrases → Type 0) (m : Phrase) {w : List Token} → DeriveFrom S (pcons m pnil) w → DerivesFrom S m w
single S m (d_cons u v e x (d_nil e')) = subst (λ (z : List Token). DerivesFrom S m z) (sym (e ∙ ap (u ++◌) e' ∙ append-nil u)) x

module _ (R : Tree) (resR : Resolved R) (res_l : Resolved (levelled R)) (argumentless : Argumentless R) (sided : AllSided R) where
  abbrev L : Tree
  L = levelled R

  -- ---- an annotated nonterminal d
  module _ (d : Nonterminal) (g : Memᴰ (item d) R) (an : annotated d ≡ true) where
    abbrev At : ℕ → List Token → Type 0
    At v w = DerivesFrom (Step false L) (reference (name_at d v) none) w

    abbrev mine : Graded → Phrases
    mine γ = own d.name d γ (means R [] γ.alternative.symbols)

    abbrev lowered : Graded → Phrases
    lowered γ = means L [] (substitute_at d γ).symbols

    answers : (γ : Graded) → Memᴰ γ (graded d) → AnswersAll R (mine γ) (lowered γ)
    answers γ i = own-answers R res_l d g an (sided d g an) γ i (graded-okay R resR d g (argumentless d g an) γ i)

    level_step : (v : ℕ) → Level (graded d) v → (a : Alternative) → Memᴰ a (level_item d v).alternatives → Step false L (reference (name_at d v) none) (means L [] a.symbols)
    unfolding level_item
    level_step v l a i = s_plain (level_item d v) a (levelled-at R d g an v l) refl (argumentless d g an) i refl refl

    fall_means : (v : ℕ) → Level (graded d) (below v (graded d)) → means L [] (fall_at d v).symbols ≡ pcons (reference (name_at d (below v (graded d))) none) pnil
    unfolding mean
    fall_means v l = ap (λ (m : Phrase). pcons m pnil) (level_named R res_l d g an (below v (graded d)) l)

    -- what a lower level derives, a higher one does, by fall-throughs
    down : (k v u : ℕ) → v ≤ k → Level (graded d) v → Level (graded d) u → u ≤ v → (w : List Token) → At u w → At v w
    down zero v u hk lv lu h w x = subst (λ (z : ℕ). At z w) (both_zero v u hk h) x
      where
        both_zero : (v u : ℕ) → v ≤ 0 → u ≤ v → u ≡ v
        both_zero v u p q = omega arith
    down (suc k) v u hk lv lu h w x = go (dec_lt u v) (λ b hb lb hu. down k b u hb lb lu hu w x)
      where
        equal : (v u : ℕ) → u ≤ v → ¬ (u < v) → u ≡ v
        equal v u p q = omega arith

        less : (b v k : ℕ) → b < v → v ≤ suc k → b ≤ k
        less b v k p q = omega arith

        go : Dec (u < v) → ((b : ℕ) → b ≤ k → Level (graded d) b → u ≤ b → At b w) → At v w
        go (no n) ih = subst (λ (z : ℕ). At z w) (equal v u h n) x
        go (yes p) ih =
            let nl = not_lowest v (graded d) u lu p in
            let (lb, lt) = below-level v (graded d) nl in
            d_step _ (subst (λ (z : Phrases). Step false L (reference (name_at d v) none) z) (fall_means v lb) (level_step v lv (fall_at d v) (level_falls d v nl)))
            (d_cons w [] (sym (append-nil w)) (ih (below v (graded d)) (less (below v (graded d)) v k lt hk) lb (below-max v (graded d) u lu p)) (d_nil refl))

    -- an own alternative under the ceiling v
    to_level : (v : ℕ) → Level (graded d) v → (γ : Graded) → Memᴰ γ (graded d) → γ.level ≤ v → (w : List Token) → DeriveFrom (Step false L) (lowered γ) w → At v w
    to_level v lv γ i h w ds = down v v γ.level (omega arith) lv (γ, i, refl) h w (d_step _ (level_step γ.level (γ, i, refl) (substitute_at d γ) (level_have d γ i)) ds)

  plain-macro : (d : Nonterminal) → Memᴰ (item d) R → (d.args ≢ []) → annotated d ≡ false
  plain-macro d g ne = go (test (annotated d))
    where
      go : (annotated d ≡ true) ⊎ (annotated d ≡ false) → annotated d ≡ false
      go (inl e) = absurd (ne (argumentless d g e))
      go (inr e) = e

  plain-answers : (d : Nonterminal) (a : Alternative) → Memᴰ (item d) R → d.args ≡ [] → Memᴰ a d.alternatives → AnswersAll R (means R [] a.symbols) (means L [] a.symbols)
  plain-answers d a g p i = means_answer R [] a.symbols (subst (λ (l : List Text). Okays R l a.symbols) p (resR.symbols d g a i))

  -- ---- from the resolved to the levelled tree
  abbrev To : Phrases → Phrase → Type 0
  To ms x = (ys : Phrases) × All2 (Answers R) ms ys × ((w : List Token) → DeriveFrom (Step false L) ys w → DerivesFrom (Step false L) x w)

  level_to : (n : Text) (d : Nonterminal) (γ : Graded) (g : Memᴰ (item d) R) → d.name ≡ n → Memᴰ γ (graded d) → (an : annotated d ≡ true) → (v : ℕ) → Level (graded d) v → γ.level ≤ v
      → (k : Text) → k ≡ name_at d v → (ms : Phrases) → ms ≡ own n d γ (means R [] γ.alternative.symbols) → To ms (reference k none)
  level_to n d γ g e i an v lv h k ek ms q = (
    lowered d g an γ,
    subst (λ (z : Phrases). All2 (Answers R) z (lowered d g an γ)) (sym (q ∙ ap (λ (z : Text). own z d γ (means R [] γ.alternative.symbols)) (sym e))) (all_answer R (answers d g an γ i)),
    λ w ds. subst (λ (z : Text). DerivesFrom (Step false L) (reference z none) w) (sym ek) (to_level d g an v lv γ i h w ds),
  )

  to_reference : (n : Text) (ms : Phrases) → Step true R (reference n none) ms → To ms (reference n none)
  to_reference n ms (s_plain d a g e p i an q) = (
    means L [] a.symbols,
    subst (λ (z : Phrases). All2 (Answers R) z (means L [] a.symbols)) (sym q) (all_answer R (plain-answers d a g p i)),
    λ w ds. d_step _ (s_plain d a (levelled-plain R d g an) e p i refl refl) ds,
  )
  to_reference n ms (s_level d γ g e p i an u q) =
      level_to n d γ g e i an (highest (graded d)) (has-highest d an) (highest_max (graded d) γ.level (γ, i, refl)) n (sym e ∙ sym (highest_name d)) ms q

  to_ceiling : (n k : Text) (c : ℕ) (ms : Phrases) (d : Nonterminal) → Memᴰ (item d) R → d.name ≡ n → annotated d ≡ true → Level (graded d) c → k ≡ name_at d c
      → Step true R (reference n (some c)) ms → To ms (reference k none)
  to_ceiling n k c ms d g e an l ek (s_plain d1 a1 g1 e1 p1 i1 an1 q1) = absurd (false≢true (sym an1 ∙ ap annotated (resR.distinct d1 d g1 g (e1 ∙ sym e)) ∙ an))
  to_ceiling n k c ms d g e an l ek (s_level d1 γ g1 e1 p1 i1 an1 u q1) =
      let same-d = resR.distinct d d1 g g1 (e ∙ sym e1) in
      level_to n d1 γ g1 e1 i1 an1 c (subst (λ (z : Nonterminal). Level (graded z) c) same-d l) u k (ek ∙ ap (λ (z : Nonterminal). name_at z c) same-d) ms q1

  to_call : (n : Text) (xs ys : Phrases) (ms : Phrases) → AnswersAll R xs ys → Step true R (call n xs) ms → To ms (call n ys)
  to_call n xs ys ms h (s_call d a g e ne i c q) =
      let an : annotated d ≡ false = plain-macro d g ne in (
        puts d.args ys (means L d.args a.symbols),
        subst (λ (z : Phrases). All2 (Answers R) z (puts d.args ys (means L d.args a.symbols))) (sym q)
            (all_answer R (puts_answer R d.args xs ys h (means_answer R d.args a.symbols (resR.symbols d g a i)))),
        λ w ds. d_step _ (s_call d a (levelled-plain R d g an) e ne i (sym (holds-alike R d.args h a.condition) ∙ c) refl) ds,
      )

  steps_to : (m x : Phrase) (ms : Phrases) → Answers R m x → Step true R m ms → To ms x
  steps_to m x ms l_token s = elim s [ ]
  steps_to m x ms l_parameter s = elim s [ ]
  steps_to m x ms (l_reference {n} h) s = to_reference n ms s
  steps_to m x ms (l_ceiling {n} {k} {c} d g e an l ek) s = to_ceiling n k c ms d g e an l ek s
  steps_to m x ms (l_call {n} {xs} {ys} h) s = to_call n xs ys ms h s
  steps_to m x ms (l_repeated h) s_question_none = (_, a_nil, λ w ds. d_step _ s_question_none ds)
  steps_to m x ms (l_repeated h) s_question_one = (_, a_cons h a_nil, λ w ds. d_step _ s_question_one ds)
  steps_to m x ms (l_repeated h) s_star_none = (_, a_nil, λ w ds. d_step _ s_star_none ds)
  steps_to m x ms (l_repeated h) s_star_plus = (_, a_cons (l_repeated h) a_nil, λ w ds. d_step _ s_star_plus ds)
  steps_to m x ms (l_repeated h) s_plus_one = (_, a_cons h a_nil, λ w ds. d_step _ s_plus_one ds)
  steps_to m x ms (l_repeated h) s_plus_more = (_, a_cons (l_repeated h) (a_cons h a_nil), λ w ds. d_step _ s_plus_more ds)
  steps_to m x ms (l_sequence h) s_sequence = (_, all_answer R h, λ w ds. d_step _ s_sequence ds)

  tokens_to : (t : Token) (x : Phrase) → Answers R (token t) x → (w : List Token) → w ≡ t ∷ [] → DerivesFrom (Step false L) x w
  tokens_to t x l_token w e = d_token e

  pub levels-complete : {m x : Phrase} {w : List Token} → DerivesFrom (Step true R) m w → Answers R m x → DerivesFrom (Step false L) x w
  levels-complete = simulate (Step true R) (Step false L) (Answers R) tokens_to steps_to

  -- ---- and back
  abbrev From : Phrases → Phrase → Type 0
  From xs m = (ms : Phrases) × All2 (Answered R) xs ms × ((w : List Token) → DeriveFrom (Step true R) ms w → DerivesFrom (Step true R) m w)

  -- a higher ceiling, or none
  raise_step : (n : Text) (b : ℕ) (c : Option ℕ) {ms : Phrases} → ((v : ℕ) → v ≤ b → Under c v) → Step true R (reference n (some b)) ms → Step true R (reference n c) ms
  raise_step n b c h (s_plain d a g e p i an q) = s_plain d a g e p i an q
  raise_step n b c h (s_level d γ g e p i an u q) = s_level d γ g e p i an (h γ.level u) q

  raise : (n : Text) (b : ℕ) (c : Option ℕ) {w : List Token} → ((v : ℕ) → v ≤ b → Under c v) → DerivesFrom (Step true R) (reference n (some b)) w → DerivesFrom (Step true R) (reference n c) w
  raise n b c h (d_step ms s ds) = d_step ms (raise_step n b c h s) ds

  level_from_lem : (n : Text) (d : Nonterminal) (g : Memᴰ (item d) R) → d.name ≡ n → annotated d ≡ true → (v : ℕ) (c : Option ℕ) → ((u : ℕ) → u ≤ v → Under c u)
      → (a : Alternative) → Memᴰ a (level_item d v).alternatives → From (means L [] a.symbols) (reference n c)
  level_from_lem n d g e an v c h a i = go (level_only d v a i)
    where
      equal : (a b : ℕ) → a ≡ b → a ≤ b
      equal a b p = omega arith

      under : (b v u : ℕ) → b < v → u ≤ b → u ≤ v
      under b v u p q = omega arith

      low : ℕ
      low = below v (graded d)

      fallen : Phrases
      fallen = pcons (reference n (some low)) pnil

      go : LevelAlternative d v a → From (means L [] a.symbols) (reference n c)
      go (inl (γ, j, l, q)) = (
        mine d g an γ,
        subst (λ (z : Alternative). All2 (Answered R) (means L [] z.symbols) (mine d g an γ)) (sym q) (all_answered R (answers d g an γ j)),
        λ w ds. d_step _ (s_level d γ g e (argumentless d g an) j an (h γ.level (equal γ.level v l)) (ap (λ (z : Text). own z d γ (means R [] γ.alternative.symbols)) e)) ds,
      )
      go (inr (nl, q)) =
          let (lb, lt) = below-level v (graded d) nl in (
            fallen,
            subst (λ (z : Alternative). All2 (Answered R) (means L [] z.symbols) fallen) (sym q)
                (subst (λ (z : Phrases). All2 (Answered R) z fallen) (sym (fall_means d g an v lb)) (a_cons (l_ceiling d g e an lb refl) a_nil)),
            λ w ds. raise n low c (λ u hu. h u (under low v u lt hu)) (single (Step true R) (reference n (some low)) ds),
          )

  -- the item that the name has in the levelled tree
  item_from : (n k : Text) (d : Nonterminal) (g : Memᴰ (item d) R) → d.name ≡ n → annotated d ≡ true → (v : ℕ) → Level (graded d) v → (c : Option ℕ) → ((u : ℕ) → u ≤ v → Under c u)
      → k ≡ name_at d v → (xs : Phrases) → Step false L (reference k none) xs → From xs (reference n c)
  unfolding level_item
  item_from n k d g e an v lv c h ek xs (s_plain x a gx ex px ix ax q) =
      let same_x : x ≡ level_item d v = res_l.distinct x (level_item d v) gx (levelled-at R d g an v lv) (ex ∙ ek) in
      subst (λ (z : Phrases). From z (reference n c)) (sym q) (level_from_lem n d g e an v c h a (subst (λ (z : Nonterminal). Memᴰ a z.alternatives) same_x ix))
  item_from n k d g e an v lv c h ek xs (s_level x γ gx ex px ix ax u q) = absurd (false≢true ax)

  plain-from : (n : Text) (d : Nonterminal) (g : Memᴰ (item d) R) → d.name ≡ n → d.args ≡ [] → annotated d ≡ false → (xs : Phrases) → Step false L (reference n none) xs
      → From xs (reference n none)
  plain-from n d g e p an xs (s_plain x a gx ex px ix ax q) =
      let same_x : x ≡ d = res_l.distinct x d gx (levelled-plain R d g an) (ex ∙ sym e) in
      let i : Memᴰ a d.alternatives = subst (λ (z : Nonterminal). Memᴰ a z.alternatives) same_x ix in (
        means R [] a.symbols,
        subst (λ (z : Phrases). All2 (Answered R) z (means R [] a.symbols)) (sym q) (all_answered R (plain-answers d a g p i)),
        λ w ds. d_step _ (s_plain d a g e p i an refl) ds,
      )
  plain-from n d g e p an xs (s_level x γ gx ex px ix ax u q) = absurd (false≢true ax)

  from_reference : (n : Text) → HasItem R n → (xs : Phrases) → Step false L (reference n none) xs → From xs (reference n none)
  from_reference n (d, g, e, p) xs s = go (test (annotated d))
    where
      go : (annotated d ≡ true) ⊎ (annotated d ≡ false) → From xs (reference n none)
      go (inl an) = item_from n n d g e an (highest (graded d)) (has-highest d an) none (λ u hu. tt) (sym e ∙ sym (highest_name d)) xs s
      go (inr an) = plain-from n d g e p an xs s

  from_call : (n : Text) (ms ys : Phrases) (xs : Phrases) → AnswersAll R ms ys → Step false L (call n ys) xs → From xs (call n ms)
  from_call n ms ys xs h (s_call x a gx ex ne i c q) = go (levelled-only R x gx)
    where
      go : Origin R x → From xs (call n ms)
      go (inl (g, an)) = (
        puts x.args ms (means R x.args a.symbols),
        subst (λ (z : Phrases). All2 (Answered R) z (puts x.args ms (means R x.args a.symbols))) (sym q)
            (all_answered R (puts_answer R x.args ms ys h (means_answer R x.args a.symbols (resR.symbols x g a i)))),
        λ w ds. d_step _ (s_call x a g ex ne i (holds-alike R x.args h a.condition ∙ c) refl) ds,
      )
      go (inr (d, v, g, an, l, e)) = absurd (ne (ap (λ (z : Nonterminal). z.args) e ∙ level_args d v ∙ argumentless d g an))

  steps_from : (x m : Phrase) (xs : Phrases) → Answers R m x → Step false L x xs → From xs m
  steps_from x m xs l_token s = elim s [ ]
  steps_from x m xs l_parameter s = elim s [ ]
  steps_from x m xs (l_reference {n} h) s = from_reference n h xs s
  steps_from x m xs (l_ceiling {n} {k} {c} d g e an l ek) s = item_from n k d g e an c l (some c) (λ u hu. hu) ek xs s
  steps_from x m xs (l_call {n} {xs = ms} {ys} h) s = from_call n ms ys xs h s
  steps_from x m xs (l_repeated h) s_question_none = (_, a_nil, λ w ds. d_step _ s_question_none ds)
  steps_from x m xs (l_repeated h) s_question_one = (_, a_cons h a_nil, λ w ds. d_step _ s_question_one ds)
  steps_from x m xs (l_repeated h) s_star_none = (_, a_nil, λ w ds. d_step _ s_star_none ds)
  steps_from x m xs (l_repeated h) s_star_plus = (_, a_cons (l_repeated h) a_nil, λ w ds. d_step _ s_star_plus ds)
  steps_from x m xs (l_repeated h) s_plus_one = (_, a_cons h a_nil, λ w ds. d_step _ s_plus_one ds)
  steps_from x m xs (l_repeated h) s_plus_more = (_, a_cons (l_repeated h) (a_cons h a_nil), λ w ds. d_step _ s_plus_more ds)
  steps_from x m xs (l_sequence h) s_sequence = (_, all_answered R h, λ w ds. d_step _ s_sequence ds)

  tokens_from : (t : Token) (m : Phrase) → Answers R m (token t) → (w : List Token) → w ≡ t ∷ [] → DerivesFrom (Step true R) m w
  tokens_from t m l_token w e = d_token e

  pub levels_sound : {x m : Phrase} {w : List Token} → DerivesFrom (Step false L) x w → Answers R m x → DerivesFrom (Step true R) m w
  levels_sound d r = simulate (Step false L) (Step true R) (Answered R) tokens_from steps_from d r

  pub levelled-derives : (N : Text) → HasItem R N → (w : List Token) → DerivesExpanded L N w ↔ Derives R N w
  levelled-derives N h w = (λ d. levels_sound d (l_reference h), λ d. levels-complete d (l_reference h))
