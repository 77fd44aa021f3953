-- How the calls' answers are read from a number of 64 bits.
use Rattle.std.specs.Prelude.{◌≡◌, cond, List, ℕ, ◌/◌, ◌%◌, ◌≤◌, ◌<◌, eqb, length}
use Rattle.hazard.specs.Refusal.{Refusal}
use Rattle.hazard.specs.Minimal.{Minimised, written, declined}
use Rattle.hazard.specs.Verdict.{products, Verdict, Fields, fields_of, Verified}
use Rattle.hazard.specs.Shown.{Shown}

-- A refusal: its number in bits 0 to 7, the transition in 8 to 23, the label or point in 24 to 39, the steps in 40 to 47, the lowest
-- zero in 48 to 63.
abbrev pub unpacked_refusal : ℕ → Refusal
unpacked_refusal w = record {
  number = w % 256;
  transition = w / 256 % 65536;
  point = w / 256 / 65536 % 65536;
  steps = w / 256 / 65536 / 65536 % 256;
  lowest = w / 256 / 65536 / 65536 / 256;
  product = 0;
}

-- The minimiser's answer: where bits 0 to 7 are 0, the count of products in the others; else a refusal.
abbrev pub unpacked_answer : ℕ → Minimised
unpacked_answer w = cond (eqb (w % 256) 0) (written (w / 256)) (declined (unpacked_refusal w))

-- A verdict: its number in bits 0 to 7, the refusal's in 8 to 15, the product in 16 to 31, the transition in 32 to 38, the label or
-- point in 39 to 48.
abbrev pub unpacked_verdict : ℕ → Fields
unpacked_verdict w = record {
  number = w % 256;
  refusal = w / 256 % 256;
  product = w / 256 / 256 % 65536;
  transition = w / 256 / 256 / 65536 % 128;
  point = w / 256 / 256 / 65536 / 128 % 1024;
}

-- The wires that were written, in bits 49 to 63.
abbrev pub unpacked_wires : ℕ → ℕ
unpacked_wires w = w / 256 / 256 / 65536 / 128 / 1024

-- The number and the fields that are read are those of a verdict that the verifier promises, and the wires those that are counted with it.
pub record ReadVerdict (n : ℕ) (f ts bytes before after : List ℕ) (w : ℕ) : Type 0 where
  pub verdict : Verdict
  pub verified : Verified n f ts bytes (length before) verdict
  pub shown : Shown f ts (products n bytes) verdict before after (unpacked_wires w)
  pub is : unpacked_verdict w ≡ fields_of verdict

-- A refusal whose fields fit their places. Its number is not 0, which stands for a count, and it names no product.
pub record RefusalFits (q : Refusal) : Type 0 where
  pub number-low : 1 ≤ q.number
  pub number : q.number < 256
  pub transition : q.transition < 65536
  pub point : q.point < 65536
  pub steps : q.steps < 256
  pub lowest : q.lowest < 65536
  pub product : q.product ≡ 0

-- An answer that fits: a count of at most 65,535 products, or a refusal.
abbrev pub AnswerFits : Minimised → Type 0
AnswerFits (written k) = k < 65536
AnswerFits (declined q) = RefusalFits q

-- A verdict, with so many wires, whose fields fit their places. What is made of a byte or of two fits anyhow.
pub record FindingFits (m : Fields) (wires : ℕ) : Type 0 where
  pub transition : m.transition < 128
  pub point : m.point < 1024
  pub wires' : wires < 32768
