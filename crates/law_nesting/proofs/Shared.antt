-- Two modules that begin alike have the same places there, and the tokens of a module have no others.
use Rattle.std.proofs.Common.{◌≡◌, refl, sym, ap, subst, ◌∙◌, ℕ, zero, suc, Bool, true, false, ◌||◌, ◌&&◌, List, [], ◌∷◌, ◌++◌, Some, None, ◌⊎◌, inl, inr, ⊎_elim, append_assoc, append-nil}
use Rattle.std.proofs.lemmas.Bool.{and_parts}
use Rattle.std.proofs.lemmas.List.{append_cancel_left, map-append}
use Rattle.ob_tree.specs.declared.symbol.Symbol.{Symbol}
use Rattle.ob_tree.specs.declared.token.Token.{Token}
use Rattle.ob_tree.specs.declared.decl.Module.{Module}
use Rattle.ob_parse_grammar.specs.Phrase.{Tokens, Nest, AnExpr, AType, Statements, Negated, Procedure, Tree, Phrase, word, both, made, maybe, many, either, nest, fork}
use Rattle.ob_parse_grammar.specs.Reading.{Set, starts, may_be_empty}
use Rattle.ob_parse_grammar.specs.Grammar.{rule, spells, first_of, empty_of, begins, IsVoid}
use Rattle.ob_parse_grammar.specs.Declarations.{«module»}
use Rattle.ob_parse_grammar.proofs.Basics.{Apart, Begins, false_not_true, starts_more, apart_starts, stops_left, stops_right, stops_when}
use Rattle.ob_parse_grammar.proofs.Fine.{every, more, fine, within, within_stops, apart_at}
use Rattle.ob_parse_grammar.proofs.Whole.{good_read, good_phrase, more_of, agrees, module_fine}
use Rattle.ob_parse_grammar.proofs.Local.{SameHead, same_starts}
use Rattle.law_nesting.specs.Levels.{Placed, token_of, tokens_of, Placing, places_as, places_maybe, places_many, places, IsPlaced}
use Rattle.law_nesting.proofs.Places.{not_false, front_join, lower_as, lower}

-- ---- texts that begin alike

-- both texts begin with w, and the same token is behind it
abbrev pub Alike : Tokens → Tokens → Tokens → Type 0
Alike w d d' = (u : Tokens) × (v : Tokens) × (d ≡ w ++ u) × (d' ≡ w ++ v) × SameHead u v

front_starts : (f : Set) (w u v : Tokens) → SameHead u v → starts f (w ++ u) ≡ starts f (w ++ v)
front_starts f [] u v h = same_starts f u v h
front_starts f (t ∷ w) u v h = refl

alike_starts : (f : Set) (w d d' : Tokens) → Alike w d d' → starts f d ≡ starts f d'
alike_starts f w d d' a = ap (starts f) a.2 ∙ front_starts f w a.0 a.1 a.4 ∙ sym (ap (starts f) a.3)

alike_moved : (w d d' e e' : Tokens) → d ≡ e → d' ≡ e' → Alike w d d' → Alike w e e'
alike_moved w d d' e e' p q a = (a.0, a.1, sym p ∙ a.2, sym q ∙ a.3, a.4)

alike_behind : (b w d d' : Tokens) → Alike (b ++ w) (b ++ d) (b ++ d') → Alike w d d'
alike_behind b w d d' a =
    (a.0, a.1, append_cancel_left b d (w ++ a.0) (a.2 ∙ append_assoc b w a.0), append_cancel_left b d' (w ++ a.1) (a.3 ∙ append_assoc b w a.1), a.4)

head_sym : (u v : Tokens) → SameHead u v → SameHead v u
head_sym [] [] h = h
head_sym [] (y ∷ v) h = h
head_sym (x ∷ u) [] h = h
head_sym (x ∷ u) (y ∷ v) h = sym h

alike_sym : (w d d' : Tokens) → Alike w d d' → Alike w d' d
alike_sym w d d' a = (a.1, a.0, a.3, a.2, head_sym a.0 a.1 a.4)

-- ---- places that are shared

-- the places of w are the same: both end within w and are the same, or both go on behind it
abbrev pub Ends : Tokens → List Placed → List Placed → Type 0
Ends w us vs = (w' : Tokens) × (w ≡ tokens_of us ++ w') × (us ≡ vs)

abbrev pub GoOn : Tokens → List Placed → List Placed → Type 0
GoOn w us vs = (p : List Placed) × (us' : List Placed) × (vs' : List Placed) × (us ≡ p ++ us') × (vs ≡ p ++ vs') × (w ≡ tokens_of p)

abbrev pub Share : Tokens → List Placed → List Placed → Type 0
Share w us vs = Ends w us vs ⊎ GoOn w us vs

share_nothing : (us vs : List Placed) → Share [] us vs
share_nothing us vs = inr ([], us, vs, refl, refl, refl)

share_empty : (w : Tokens) (us vs : List Placed) → us ≡ [] → vs ≡ [] → Share w us vs
share_empty w us vs s t = inl (w, sym (ap (λ z. tokens_of z ++ w) s), s ∙ sym t)

share_sym : (w : Tokens) (us vs : List Placed) → Share w us vs → Share w vs us
share_sym w us vs (inl a) = inl (a.0, a.1 ∙ ap (λ z. tokens_of z ++ a.0) a.2, sym a.2)
share_sym w us vs (inr a) = inr (a.0, a.2, a.1, a.4, a.3, a.5)

share_both : (w : Tokens) (us a₁ b₁ vs a₂ b₂ : List Placed) → us ≡ a₁ ++ b₁ → vs ≡ a₂ ++ b₂ → Share w a₁ a₂
    → ((w' : Tokens) → w ≡ tokens_of a₁ ++ w' → a₁ ≡ a₂ → Share w' b₁ b₂) → Share w us vs
share_both w us a₁ b₁ vs a₂ b₂ p q (inr g) more' = inr (
  g.0,
  g.1 ++ b₁,
  g.2 ++ b₂,
  p ∙ ap (λ z. z ++ b₁) g.3 ∙ append_assoc g.0 g.1 b₁,
  q ∙ ap (λ z. z ++ b₂) g.4 ∙ append_assoc g.0 g.2 b₂,
  g.5,
)
share_both w us a₁ b₁ vs a₂ b₂ p q (inl g) more' = by_second (more' g.0 g.1 g.2)
  where
    by_second : Share g.0 b₁ b₂ → Share w us vs
    by_second (inl h) = inl (
      h.0,
      g.1 ∙ ap (λ z. tokens_of a₁ ++ z) h.1 ∙ front_join a₁ b₁ h.0 ∙ sym (ap (λ z. tokens_of z ++ h.0) p),
      p ∙ ap (λ z. z ++ b₁) g.2 ∙ ap (λ z. a₂ ++ z) h.2 ∙ sym q,
    )
    by_second (inr h) = inr (
      a₁ ++ h.0,
      h.1,
      h.2,
      p ∙ ap (λ z. a₁ ++ z) h.3 ∙ sym (append_assoc a₁ h.0 h.1),
      q ∙ ap (λ z. z ++ b₂) (sym g.2) ∙ ap (λ z. a₁ ++ z) h.4 ∙ sym (append_assoc a₁ h.0 h.2),
      g.1 ∙ ap (λ z. tokens_of a₁ ++ z) h.5 ∙ sym (map-append token_of a₁ h.0),
    )

head_same : (t u : Token) (c c' : Tokens) → t ∷ c ≡ u ∷ c' → t ≡ u
head_same t u c c' e = cc

tail_same : (t u : Token) (c c' : Tokens) → t ∷ c ≡ u ∷ c' → c ≡ c'
tail_same t u c c' e = cc

share_token : (k : ℕ) (x y : Token) (c c' w : Tokens) → Alike w (x ∷ c) (y ∷ c') → Share w ((k, x) ∷ []) ((k, y) ∷ [])
share_token k x y c c' [] a = share_nothing ((k, x) ∷ []) ((k, y) ∷ [])
share_token k x y c c' (z ∷ w) a =
    let ex = head_same x z c (w ++ a.0) a.2 in let ey = head_same y z c' (w ++ a.1) a.3 in
    inl (w, ap (λ t. t ∷ w) (sym ex), ap (λ t. (k, t) ∷ []) (ex ∙ sym ey))

-- two that begin alike share the places of what they begin with, where nothing lengthens them
abbrev Shares : {A : Type 0} → Placing A → Placing A → Set → Type 0
Shares {A} P Q m = (x y : A) (us vs : List Placed) (c c' w : Tokens) → P x us → Q y vs → Alike w (tokens_of us ++ c) (tokens_of vs ++ c') → starts m c ≡ false → starts m c' ≡ false → Share w us vs

between : (g : Set) (e : Bool) (m n : Set) → Apart m g → (b c : Tokens) → Begins g e b → starts (λ t. n t || (e && m t)) c ≡ false → starts m (b ++ c) ≡ false
between g e m n apart b c (inl x) stop =
    let here = stops_when e m c (stops_right n (λ t. e && m t) c stop) x.1 in rw x.0 here
between g e m n apart b c (inr x) stop = apart_starts m g apart b c x

-- what may not be empty starts as it may
starting : (f : Set) (e : Bool) → e ≡ false → (a : Tokens) → Begins f e a → starts f a ≡ true
starting f e solid a (inl x) = absurd (false_not_true e solid x.1)
starting f e solid a (inr x) = x

alike_split : (w : Tokens) (us a₁ b₁ vs a₂ b₂ : List Placed) (c c' : Tokens) → us ≡ a₁ ++ b₁ → vs ≡ a₂ ++ b₂ → Alike w (tokens_of us ++ c) (tokens_of vs ++ c')
    → Alike w (tokens_of a₁ ++ (tokens_of b₁ ++ c)) (tokens_of a₂ ++ (tokens_of b₂ ++ c'))
alike_split w us a₁ b₁ vs a₂ b₂ c c' p q a =
    alike_moved w (tokens_of us ++ c) (tokens_of vs ++ c') (tokens_of a₁ ++ (tokens_of b₁ ++ c)) (tokens_of a₂ ++ (tokens_of b₂ ++ c'))
    (ap (λ z. tokens_of z ++ c) p ∙ sym (front_join a₁ b₁ c)) (ap (λ z. tokens_of z ++ c') q ∙ sym (front_join a₂ b₂ c')) a

alike_rest : (w w' : Tokens) (a₁ a₂ : List Placed) (d d' : Tokens) → w ≡ tokens_of a₁ ++ w' → a₁ ≡ a₂ → Alike w (tokens_of a₁ ++ d) (tokens_of a₂ ++ d') → Alike w' d d'
alike_rest w w' a₁ a₂ d d' p q a =
    let K : Tokens → Type 0 = λ z. Alike z (tokens_of a₁ ++ d) (tokens_of a₂ ++ d') in
    alike_behind (tokens_of a₁) w' d d'
    (alike_moved (tokens_of a₁ ++ w') (tokens_of a₁ ++ d) (tokens_of a₂ ++ d') (tokens_of a₁ ++ d) (tokens_of a₁ ++ d') refl (sym (ap (λ z. tokens_of z ++ d') q)) (subst K p a))

abbrev Starting : {A : Type 0} → Placing A → Set → Type 0
Starting {A} P f = (x : A) (us : List Placed) → P x us → starts f (tokens_of us) ≡ true

-- what starts so does not stop so
clash : {G : Type 0} (f m : Set) (us : List Placed) (c d : Tokens) → us ≡ [] → starts f (tokens_of us ++ c) ≡ starts f d → starts f d ≡ true → starts (λ t. f t || m t) c ≡ false → G
clash f m us c d s e h stop =
    let K : List Placed → Type 0 = λ z. starts f (tokens_of z ++ c) ≡ true in
    absurd (false_not_true (starts f c) (stops_left f m c stop) (subst K s (e ∙ h)))

shares_maybe : {A : Type 0} (P Q : Placing A) (f m : Set) → Shares P Q m → Starting P f → Starting Q f → Shares (places_maybe P) (places_maybe Q) (λ t. f t || m t)
shares_maybe P Q f m O B C None None us vs c c' w s t a stop stop' = share_empty w us vs s t
shares_maybe P Q f m O B C None (Some y) us vs c c' w s t a stop stop' =
    clash f m us c (tokens_of vs ++ c') s (alike_starts f w (tokens_of us ++ c) (tokens_of vs ++ c') a) (starts_more f (tokens_of vs) c' (C y vs t)) stop
shares_maybe P Q f m O B C (Some x) None us vs c c' w s t a stop stop' =
    clash f m vs c' (tokens_of us ++ c) t (sym (alike_starts f w (tokens_of us ++ c) (tokens_of vs ++ c') a)) (starts_more f (tokens_of us) c (B x us s)) stop'
shares_maybe P Q f m O B C (Some x) (Some y) us vs c c' w s t a stop stop' = O x y us vs c c' w s t a (stops_right f m c stop) (stops_right f m c' stop')

module _ {A : Type 0} (P Q : Placing A) (f m : Set) (O : Shares P Q m) (B : Starting P f) (C : Starting Q f) (apart : Apart m f) where
  -- behind one of a list comes another, or what stops it
  behind_one : (P : Placing A) → Starting P f → (xs : List A) (us : List Placed) (c : Tokens) → places_many P xs us → starts (λ t. f t || m t) c ≡ false → starts m (tokens_of us ++ c) ≡ false
  behind_one P B [] us c s stop = let K : List Placed → Type 0 = λ z. starts m (tokens_of z ++ c) ≡ false in subst K (sym s) (stops_right f m c stop)
  behind_one P B (x ∷ xs) us c s stop =
      let K : List Placed → Type 0 = λ z. starts m (tokens_of z ++ c) ≡ false in
      let L : Tokens → Type 0 = λ z. starts m z ≡ false in
      subst K (sym s.2) (subst L (front_join s.0 s.1 c) (apart_starts m f apart (tokens_of s.0) (tokens_of s.1 ++ c) (B x s.0 s.3)))

  starts_list : (P : Placing A) → Starting P f → (x : A) (xs : List A) (us : List Placed) → places_many P (x ∷ xs) us → (c : Tokens) → starts f (tokens_of us ++ c) ≡ true
  starts_list P B x xs us s c =
      let K : List Placed → Type 0 = λ z. starts f (tokens_of z ++ c) ≡ true in
      let L : Tokens → Type 0 = λ z. starts f z ≡ true in
      subst K (sym s.2) (subst L (front_join s.0 s.1 c) (starts_more f (tokens_of s.0) (tokens_of s.1 ++ c) (B x s.0 s.3)))

  shares_many : Shares (places_many P) (places_many Q) (λ t. f t || m t)
  shares_many [] [] us vs c c' w s t a stop stop' = share_empty w us vs s t
  shares_many [] (y ∷ ys) us vs c c' w s t a stop stop' =
      clash f m us c (tokens_of vs ++ c') s (alike_starts f w (tokens_of us ++ c) (tokens_of vs ++ c') a) (starts_list Q C y ys vs t c') stop
  shares_many (x ∷ xs) [] us vs c c' w s t a stop stop' =
      clash f m vs c' (tokens_of us ++ c) t (sym (alike_starts f w (tokens_of us ++ c) (tokens_of vs ++ c') a)) (starts_list P B x xs us s c) stop'
  shares_many (x ∷ xs) (y ∷ ys) us vs c c' w s t a stop stop' =
      let a' = alike_split w us s.0 s.1 vs t.0 t.1 c c' s.2 t.2 a in
      share_both w us s.0 s.1 vs t.0 t.1 s.2 t.2
      (O x y s.0 t.0 (tokens_of s.1 ++ c) (tokens_of t.1 ++ c') w s.3 t.3 a' (behind_one P B xs s.1 c s.4 stop) (behind_one Q C ys t.1 c' t.4 stop'))
      (λ w' p q. shares_many xs ys s.1 t.1 c c' w' s.4 t.4 (alike_rest w w' s.0 t.0 (tokens_of s.1 ++ c) (tokens_of t.1 ++ c') p q a') stop stop')

-- the same text does not start in two ways
two_ways : {G : Type 0} (f g : Set) → Apart f g → (b d c' : Tokens) → starts f d ≡ starts f (b ++ c') → starts f d ≡ true → starts g b ≡ true → G
two_ways f g apart b d c' e h k = absurd (false_not_true (starts f (b ++ c')) (apart_starts f g apart b c' k) (sym e ∙ h))

shares_either : {A : Type 0} (P P' Q Q' : Placing A) (f g m n : Set) → Shares P P' m → Shares Q Q' n → Starting P f → Starting P' f → Starting Q g → Starting Q' g → Apart f g
    → Shares (λ x us. P x us ⊎ Q x us) (λ x us. P' x us ⊎ Q' x us) (λ t. m t || n t)
shares_either P P' Q Q' f g m n O N B B' C C' apart x y us vs c c' w (inl s) (inl t) a stop stop' = O x y us vs c c' w s t a (stops_left m n c stop) (stops_left m n c' stop')
shares_either P P' Q Q' f g m n O N B B' C C' apart x y us vs c c' w (inl s) (inr t) a stop stop' =
    two_ways f g apart (tokens_of vs) (tokens_of us ++ c) c' (alike_starts f w (tokens_of us ++ c) (tokens_of vs ++ c') a) (starts_more f (tokens_of us) c (B x us s)) (C' y vs t)
shares_either P P' Q Q' f g m n O N B B' C C' apart x y us vs c c' w (inr s) (inl t) a stop stop' =
    two_ways f g apart (tokens_of us) (tokens_of vs ++ c') c (sym (alike_starts f w (tokens_of us ++ c) (tokens_of vs ++ c') a)) (starts_more f (tokens_of vs) c' (B' y vs t)) (C x us s)
shares_either P P' Q Q' f g m n O N B B' C C' apart x y us vs c c' w (inr s) (inr t) a stop stop' = N x y us vs c c' w s t a (stops_right m n c stop) (stops_right m n c' stop')

-- what is behind the symbol of a fork
abbrev Behind : {A : Type 0} → ℕ → Placing A → Placing A → A → List Placed → Token → List Placed → Type 0
Behind k P Q x us t b = ((us ≡ (k, t) ∷ b) × P x b) ⊎ ((us ≡ (suc k, t) ∷ b) × Q x b)

abbrev places_fork : {A : Type 0} → ℕ → Symbol → Placing A → Placing A → Placing A
places_fork k z P Q x us = (t : Token) × (b : List Placed) × (t.symbol ≡ z) × Behind k P Q x us t b

module _ (us vs : List Placed) (c c' : Tokens) (t u : Token) (a b : List Placed) where
  -- behind symbols at the same level
  share_behind : (l : ℕ) (w : Tokens) → us ≡ (l, t) ∷ a → vs ≡ (l, u) ∷ b → Alike w (tokens_of us ++ c) (tokens_of vs ++ c')
      → ((w' : Tokens) → Alike w' (tokens_of a ++ c) (tokens_of b ++ c') → Share w' a b) → Share w us vs
  share_behind l w q r k rest =
      let k' = alike_split w us ((l, t) ∷ []) a vs ((l, u) ∷ []) b c c' q r k in
      share_both w us ((l, t) ∷ []) a vs ((l, u) ∷ []) b q r (share_token l t u (tokens_of a ++ c) (tokens_of b ++ c') w k')
      (λ w' p e. rest w' (alike_rest w w' ((l, t) ∷ []) ((l, u) ∷ []) (tokens_of a ++ c) (tokens_of b ++ c') p e k'))

  -- symbols at two levels are followed by the same token
  starts_behind : (l l' : ℕ) (w : Tokens) → us ≡ (l, t) ∷ a → vs ≡ (l', u) ∷ b → Alike w (tokens_of us ++ c) (tokens_of vs ++ c')
      → ((f : Set) → starts f (tokens_of a ++ c) ≡ starts f (tokens_of b ++ c')) ⊎ (w ≡ [])
  starts_behind l l' [] q r k = inr refl
  starts_behind l l' (z ∷ w) q r k =
      let k' = alike_split (z ∷ w) us ((l, t) ∷ []) a vs ((l', u) ∷ []) b c c' q r k in
      inl (λ f. alike_starts f w (tokens_of a ++ c) (tokens_of b ++ c')
      (k'.0, k'.1, tail_same t z (tokens_of a ++ c) (w ++ k'.0) k'.2, tail_same u z (tokens_of b ++ c') (w ++ k'.1) k'.3, k'.4))

share_none : (w : Tokens) (us vs : List Placed) → w ≡ [] → Share w us vs
share_none w us vs e = let K : Tokens → Type 0 = λ z. Share z us vs in subst K (sym e) (share_nothing us vs)

shares_fork : {A : Type 0} (k : ℕ) (z : Symbol) (P P' Q Q' : Placing A) (f g m n : Set) → Shares P P' m → Shares Q Q' n → Starting P f → Starting P' f → Starting Q g → Starting Q' g → Apart f g
    → Shares (places_fork k z P Q) (places_fork k z P' Q') (λ t. m t || n t)
shares_fork {A} k z P P' Q Q' f g m n O N B B' C C' apart x y us vs c c' w s t i stop stop' = by_side s.0 s.1 t.0 t.1 s.3 t.3
  where
    by_side : (t : Token) (a : List Placed) (u : Token) (b : List Placed) → Behind k P Q x us t a → Behind k P' Q' y vs u b → Share w us vs
    by_side t a u b (inl s') (inl t') =
        share_behind us vs c c' t u a b k w s'.0 t'.0 i (λ w' j. O x y a b c c' w' s'.1 t'.1 j (stops_left m n c stop) (stops_left m n c' stop'))
    by_side t a u b (inl s') (inr t') =
        ⊎_elim (λ (h : (f : Set) → starts f (tokens_of a ++ c) ≡ starts f (tokens_of b ++ c')).
        two_ways f g apart (tokens_of b) (tokens_of a ++ c) c' (h f) (starts_more f (tokens_of a) c (B x a s'.1)) (C' y b t'.1))
        (λ h. share_none w us vs h) (starts_behind us vs c c' t u a b k (suc k) w s'.0 t'.0 i)
    by_side t a u b (inr s') (inl t') =
        ⊎_elim (λ (h : (f : Set) → starts f (tokens_of a ++ c) ≡ starts f (tokens_of b ++ c')).
        two_ways f g apart (tokens_of a) (tokens_of b ++ c') c (sym (h f)) (starts_more f (tokens_of b) c' (B' y b t'.1)) (C x a s'.1))
        (λ h. share_none w us vs h) (starts_behind us vs c c' t u a b (suc k) k w s'.0 t'.0 i)
    by_side t a u b (inr s') (inr t') =
        share_behind us vs c c' t u a b (suc k) w s'.0 t'.0 i (λ w' j. N x y a b c c' w' s'.1 t'.1 j (stops_right m n c stop) (stops_right m n c' stop'))

module _ (i j k : ℕ) (nested : (n : Nest) → Shares (places i k n) (places j k n) (more_of n)) where
  begins_as : (d : ℕ) {A : Type 0} (p : Phrase A) → fine first_of empty_of more_of p ≡ true → (x : A) (us : List Placed) → places_as (places d k) k p x us → Begins (begins p) (may_be_empty first_of empty_of p) (tokens_of us)
  begins_as d p h x us s = (good_phrase d p h).begins x (tokens_of us) (lower_as (places d k) (spells d) (lower d k) k p x us s)

  starts_as : (d : ℕ) {A : Type 0} (p : Phrase A) → fine first_of empty_of more_of p ≡ true → may_be_empty first_of empty_of p ≡ false → Starting (places_as (places d k) k p) (begins p)
  starts_as d p h solid x us s = starting (begins p) (may_be_empty first_of empty_of p) solid (tokens_of us) (begins_as d p h x us s)

  starts_nest : (d : ℕ) (n : Nest) → empty_of n ≡ false → Starting (places d k n) (first_of n)
  starts_nest d n solid x us s = starting (first_of n) (empty_of n) solid (tokens_of us) ((good_read d n).begins x (tokens_of us) (lower d k n x us s))

  shares_as : {A : Type 0} (p : Phrase A) → fine first_of empty_of more_of p ≡ true → Shares (places_as (places i k) k p) (places_as (places j k) k p) (more first_of empty_of more_of p)
  shares_as (word z) h x y us vs c c' w s t a stop stop' =
      let a' = alike_split w us ((k, x) ∷ []) [] vs ((k, y) ∷ []) [] c c' s.0 t.0 a in
      share_both w us ((k, x) ∷ []) [] vs ((k, y) ∷ []) [] s.0 t.0 (share_token k x y c c' w a') (λ w' p q. share_empty w' [] [] refl refl)
  shares_as (both p q) h x y us vs c c' w s t a stop stop' =
      let u = and_parts _ _ h in let v = and_parts _ _ u.1 in
      let m = more first_of empty_of more_of p in let n = more first_of empty_of more_of q in let g = begins q in let o = may_be_empty first_of empty_of q in
      let a' = alike_split w us s.0 s.1 vs t.0 t.1 c c' s.2 t.2 a in
      share_both w us s.0 s.1 vs t.0 t.1 s.2 t.2
      (shares_as p u.0 x.0 y.0 s.0 t.0 (tokens_of s.1 ++ c) (tokens_of t.1 ++ c') w s.3 t.3 a'
      (between g o m n (apart_at _ _ v.1) (tokens_of s.1) c (begins_as i q v.0 x.1 s.1 s.4) stop)
      (between g o m n (apart_at _ _ v.1) (tokens_of t.1) c' (begins_as j q v.0 y.1 t.1 t.4) stop'))
      (λ w' e f. shares_as q v.0 x.1 y.1 s.1 t.1 c c' w' s.4 t.4 (alike_rest w w' s.0 t.0 (tokens_of s.1 ++ c) (tokens_of t.1 ++ c') e f a')
      (stops_left n (λ z. o && m z) c stop) (stops_left n (λ z. o && m z) c' stop'))
  shares_as (made f p) h x y us vs c c' w s t a stop stop' = shares_as p h s.0 t.0 us vs c c' w s.2 t.2 a stop stop'
  shares_as (maybe p) h x y us vs c c' w s t a stop stop' =
      let u = and_parts _ _ h in let solid = not_false _ u.1 in
      shares_maybe (places_as (places i k) k p) (places_as (places j k) k p) (begins p) (more first_of empty_of more_of p)
      (λ x' y' us' vs' d d' w' s' t' a' r r'. shares_as p u.0 x' y' us' vs' d d' w' s' t' a' r r') (starts_as i p u.0 solid) (starts_as j p u.0 solid) x y us vs c c' w s t a stop stop'
  shares_as (many p) h x y us vs c c' w s t a stop stop' =
      let u = and_parts _ _ h in let v = and_parts _ _ u.1 in let solid = not_false _ v.0 in
      shares_many (places_as (places i k) k p) (places_as (places j k) k p) (begins p) (more first_of empty_of more_of p)
      (λ x' y' us' vs' d d' w' s' t' a' r r'. shares_as p u.0 x' y' us' vs' d d' w' s' t' a' r r') (starts_as i p u.0 solid) (starts_as j p u.0 solid) (apart_at _ _ v.1)
      x y us vs c c' w s t a stop stop'
  shares_as (either p q) h x y us vs c c' w s t a stop stop' =
      let u = and_parts _ _ h in let v = and_parts _ _ u.1 in let l = and_parts _ _ v.1 in let z = and_parts _ _ l.1 in
      let np = not_false _ l.0 in let nq = not_false _ z.0 in
      shares_either (places_as (places i k) k p) (places_as (places j k) k p) (places_as (places i k) k q) (places_as (places j k) k q)
      (begins p) (begins q) (more first_of empty_of more_of p) (more first_of empty_of more_of q)
      (λ x' y' us' vs' d d' w' s' t' a' r r'. shares_as p u.0 x' y' us' vs' d d' w' s' t' a' r r') (λ x' y' us' vs' d d' w' s' t' a' r r'. shares_as q v.0 x' y' us' vs' d d' w' s' t' a' r r')
      (starts_as i p u.0 np) (starts_as j p u.0 np) (starts_as i q v.0 nq) (starts_as j q v.0 nq) (apart_at _ _ z.1) x y us vs c c' w s t a stop stop'
  shares_as (nest n) h x y us vs c c' w s t a stop stop' = nested n x y us vs c c' w s t a stop stop'
  shares_as (fork l n p) h x y us vs c c' w s t a stop stop' =
      let u = and_parts _ _ h in let v = and_parts _ _ u.1 in let z = and_parts _ _ v.1 in
      let np = not_false _ v.0 in let nn = not_false _ z.0 in
      shares_fork k l (places_as (places i k) k p) (places_as (places j k) k p) (places i k n) (places j k n)
      (begins p) (first_of n) (more first_of empty_of more_of p) (more_of n)
      (λ x' y' us' vs' d d' w' s' t' a' r r'. shares_as p u.0 x' y' us' vs' d d' w' s' t' a' r r') (nested n)
      (starts_as i p u.0 np) (starts_as j p u.0 np) (starts_nest i n nn) (starts_nest j n nn) (apart_at _ _ z.1) x y us vs c c' w s t a stop stop'

-- ---- from level to level

no_tokens : (us : List Placed) → tokens_of us ≡ [] → us ≡ []
no_tokens [] e = refl
no_tokens (u ∷ us) e = let none : ⊥ = cc in absurd none

more_behind : (n : Nest) → within (more first_of empty_of more_of (rule n)) (more_of n) ≡ true
unfolding every
more_behind AnExpr = refl
more_behind AType = refl
more_behind Statements = refl
more_behind Negated = refl
more_behind Procedure = refl

-- what is empty goes on with what starts so, but for what stops it
void_stops : (n : Nest) (x : Tree n) (c : Tokens) → IsVoid n x → starts (more_of n) c ≡ false → starts (first_of n) c ≡ false
void_stops AnExpr x c v stop = absurd v
void_stops AType x c v stop = absurd v
void_stops Statements x c v stop = stops c stop
  where
    left : (a b : Bool) → (a || b) ≡ false → a ≡ false
    left true b e = e
    left false b e = refl

    stops : (c : Tokens) → starts (more_of Statements) c ≡ false → starts (first_of Statements) c ≡ false
    stops [] h = refl
    stops (t ∷ c) h = left _ _ h
void_stops Negated x c v stop = absurd v
void_stops Procedure x c v stop = absurd v

shares_void : (j k : ℕ) (n : Nest) (x y : Tree n) (us vs : List Placed) (c c' w : Tokens) → us ≡ [] → IsVoid n x → places j k n y vs → Alike w (tokens_of us ++ c) (tokens_of vs ++ c') → starts (more_of n) c ≡ false → Share w us vs
shares_void j k n x y us vs c c' w s v t a stop =
    ⊎_elim
    (λ (b : (tokens_of vs ≡ []) × (empty_of n ≡ true)). share_empty w us vs s (no_tokens vs b.0))
    (λ b. let K : List Placed → Type 0 = λ z. starts (first_of n) (tokens_of z ++ c) ≡ true in
    absurd (false_not_true (starts (first_of n) c) (void_stops n x c v stop)
    (subst K s (alike_starts (first_of n) w (tokens_of us ++ c) (tokens_of vs ++ c') a ∙ starts_more (first_of n) (tokens_of vs) c' b))))
    ((good_read j n).begins y (tokens_of vs) (lower j k n y vs t))

shares_nest : (i j k : ℕ) (n : Nest) → Shares (places i k n) (places j k n) (more_of n)
shares_nest zero j k n x y us vs c c' w s t a stop stop' = shares_void j k n x y us vs c c' w s.0 s.1 t a stop
shares_nest (suc i) zero k n x y us vs c c' w s t a stop stop' =
    share_sym w vs us (shares_void (suc i) k n y x vs us c' c w t.0 t.1 s (alike_sym w (tokens_of us ++ c) (tokens_of vs ++ c') a) stop')
shares_nest (suc i) (suc j) k n x y us vs c c' w s t a stop stop' =
    let m = more first_of empty_of more_of (rule n) in
    shares_as i j (suc k) (shares_nest i j (suc k)) (rule n) (agrees n).one_ahead x y us vs c c' w s t a
    (within_stops m (more_of n) (more_behind n) c stop) (within_stops m (more_of n) (more_behind n) c' stop')

-- ---- the module

pub shares_module : (i j : ℕ) (m n : Module) (us vs : List Placed) (w : Tokens) → IsPlaced i m us → IsPlaced j n vs → Alike w (tokens_of us) (tokens_of vs) → Share w us vs
shares_module i j m n us vs w s t a =
    shares_as i j zero (shares_nest i j zero) «module» module_fine m n us vs [] [] w s t
    (alike_moved w (tokens_of us) (tokens_of vs) (tokens_of us ++ []) (tokens_of vs ++ []) (sym (append-nil (tokens_of us))) (sym (append-nil (tokens_of vs))) a) refl refl

-- what has no more tokens than its front is the front
front_alone : (us p q : List Placed) → us ≡ p ++ q → tokens_of us ≡ tokens_of p → us ≡ p
front_alone us p q e f =
    let g : tokens_of p ++ [] ≡ tokens_of p ++ tokens_of q = append-nil (tokens_of p) ∙ sym f ∙ ap (λ z. tokens_of z) e ∙ map-append token_of p q in
    let none = no_tokens q (sym (append_cancel_left (tokens_of p) [] (tokens_of q) g)) in
    e ∙ ap (λ z. p ++ z) none ∙ append-nil p

pub placed_once : (i j : ℕ) (m n : Module) (us vs : List Placed) → IsPlaced i m us → IsPlaced j n vs → tokens_of us ≡ tokens_of vs → us ≡ vs
placed_once i j m n us vs s t e =
    ⊎_elim
    (λ (g : Ends (tokens_of us) us vs). g.2)
    (λ g. front_alone us g.0 g.1 g.3 g.5 ∙ sym (front_alone vs g.0 g.2 g.4 (sym e ∙ g.5)))
    (shares_module i j m n us vs (tokens_of us) s t ([], [], sym (append-nil (tokens_of us)), sym e ∙ sym (append-nil (tokens_of us)), tt))

-- ---- a front with its places

placed_tail : (x y : Placed) (us vs : List Placed) → x ∷ us ≡ y ∷ vs → us ≡ vs
placed_tail x y us vs e = cc

placed_head : (x y : Placed) (us vs : List Placed) → x ∷ us ≡ y ∷ vs → x ≡ y
placed_head x y us vs e = cc

same_places : (p b q e : List Placed) → p ++ q ≡ b ++ e → tokens_of p ≡ tokens_of b → p ≡ b
same_places [] [] q e h g = refl
same_places [] (y ∷ b) q e h g = let none : ⊥ = cc in absurd none
same_places (x ∷ p) [] q e h g = let none : ⊥ = cc in absurd none
same_places (x ∷ p) (y ∷ b) q e h g =
    let rest = same_places p b q e (placed_tail x y (p ++ q) (b ++ e) h) (tail_same x.1 y.1 (tokens_of p) (tokens_of b) g) in
    ap (λ z. z ∷ p) (placed_head x y (p ++ q) (b ++ e) h) ∙ ap (λ z. y ∷ z) rest

-- what is before a token has the same places in each module that begins so
pub front_places : (i j : ℕ) (m n : Module) (a : List Placed) (k : ℕ) (t : Token) (c vs : List Placed) (r : Tokens) → IsPlaced i m (a ++ (k, t) ∷ c) → IsPlaced j n vs
    → tokens_of vs ≡ tokens_of a ++ r → SameHead (t ∷ tokens_of c) r → (q : List Placed) × (vs ≡ a ++ q)
front_places i j m n a k t c vs r s u e h =
    ⊎_elim
    (λ (g : Ends (tokens_of a) (a ++ (k, t) ∷ c) vs). absurd (too_long g.0 (g.1 ∙ ap (λ z. z ++ g.0) (map-append token_of a ((k, t) ∷ c)) ∙ append_assoc (tokens_of a) (t ∷ tokens_of c) g.0)))
    (λ g. let K : List Placed → Type 0 = λ z. vs ≡ z ++ g.2 in (g.2, subst K (sym (same_places a g.0 ((k, t) ∷ c) g.1 g.3 g.5)) g.4))
    (shares_module i j m n (a ++ (k, t) ∷ c) vs (tokens_of a) s u (t ∷ tokens_of c, r, map-append token_of a ((k, t) ∷ c), e, h))
  where
    too_long : (w : Tokens) → tokens_of a ≡ tokens_of a ++ (t ∷ (tokens_of c ++ w)) → ⊥
    too_long w q =
        let g = append_cancel_left (tokens_of a) [] (t ∷ (tokens_of c ++ w)) (append-nil (tokens_of a) ∙ q) in
        cc
