-- A reader written into lent bytes is found there again, and the bytes of the reader found in some are those. Assumes nothing.
use Prim.Native.Nat.{ℕ, suc, ◌+◌, ◌≤◌}
use mathlib.Core.Path.{◌≡◌, refl, sym, ap, ◌∙◌}
use mathlib.Core.List.{List, [], ◌∷◌, ◌++◌, append_assoc}
use native.Mathlib.Omega.{arith}
use lib.ListN.{length, get_or, take, drop, length-append}
use lib.Seq.{length-take-le, take-suc, take_at, get_or_at}
use Rattle.lent.specs.Lent.{put}
use Rattle.lent.proofs.PartLaws.{put_front}
use Rattle.text.specs.Grammar.{longest}
use Rattle.lists.specs.declared.Reader.{Reader}
use Rattle.kept.specs.Kept.{reader_size, reader_bytes, reader_in}

-- ---- found again
pub length-bytes : (r : Reader) → length r.held ≡ longest → length (reader_bytes r) ≡ reader_size
unfolding reader_bytes
length-bytes r e = length-append r.held (r.count ∷ []) ∙ ap (λ (n : ℕ). n + 1) e

pub same_reader : {a b : List ℕ} {m n : ℕ} → a ≡ b → m ≡ n → ◌≡◌ {A = Reader} (record { held = a; count = m }) (record { held = b; count = n })
same_reader p e = cc

module _ (b : List ℕ) (r : Reader) (full : length r.held ≡ longest) where
  -- its bytes, and behind them what was there
  bytes-first : put b 0 (reader_bytes r) ≡ r.held ++ (r.count ∷ drop (0 + length (reader_bytes r)) b)
  unfolding put reader_bytes
  bytes-first = append_assoc r.held (r.count ∷ []) (drop (0 + length (reader_bytes r)) b)

  pub found_again : reader_in (put b 0 (reader_bytes r)) ≡ r
  unfolding reader_in
  found_again =
      let behind = drop (0 + length (reader_bytes r)) b in
      let held : take longest (put b 0 (reader_bytes r)) ≡ r.held = ap (take longest) bytes-first ∙ take_at r.held (r.count ∷ behind) longest full in
      let count : get_or (put b 0 (reader_bytes r)) longest 0 ≡ r.count = ap (λ (l : List ℕ). get_or l longest 0) bytes-first ∙ get_or_at r.held r.count behind 0 longest full in
      same_reader held count

-- the reader found in some bytes has these
module _ (b : List ℕ) (h : reader_size ≤ length b) where
  pub held-full : length (reader_in b).held ≡ longest
  unfolding reader_in
  held-full = length-take-le longest b (omega (arith, h))

  pub bytes_again : put b 0 (reader_bytes (reader_in b)) ≡ b
  unfolding reader_bytes reader_in
  bytes_again = ap (put b 0) (sym (take-suc b longest 0 (omega (arith, h)))) ∙ sym (put_front b b (suc longest) (omega (arith, h)) refl)
