-- A line that is met has what is said of it.
use Rattle.std.proofs.Common.{IsTrue, List, Some, true, ℕ, ◌≡◌, ◌∙◌, sym, ap}
use Rattle.std.specs.List.{list_any, slice_get}
use Rattle.occ_text.specs.Words.{logical_line, logical_line_of, logical_lines, words}
use Rattle.occ_text.specs.declared.token.Line.{Line}
use Rattle.occ_report.specs.Calls.{IsCallLine, begins_call}
use Rattle.occ_report.specs.Places.{IsLineOf, IsProcOf, begins_proc, is_word_of}
use Rattle.occ_report.specs.declared.stop.Kind.{Kind}

pub line_found : (lines : List Line) (place : ℕ) (l : Line) (kind : Kind) (number : ℕ) → Some (logical_line_of l) ≡ slice_get (logical_lines lines) place
    → l.number ≡ number → IsTrue (list_any (is_word_of kind) (words l.words.items)) → IsLineOf (logical_lines lines) kind number
line_found lines place l kind number e same has = record {
  place = place;
  level = l.level;
  words = words l.words.items;
  there = sym e ∙ ap (λ n. Some (logical_line n l.level (words l.words.items))) same;
  has = has;
}

pub call_found : (lines : List Line) (place : ℕ) (l : Line) (number : ℕ) → Some (logical_line_of l) ≡ slice_get (logical_lines lines) place
    → l.number ≡ number → begins_call (words l.words.items) ≡ true → IsCallLine (logical_lines lines) number
call_found lines place l number e same calls = record {
  place = place;
  level = l.level;
  words = words l.words.items;
  there = sym e ∙ ap (λ n. Some (logical_line n l.level (words l.words.items))) same;
  calls = calls;
}

pub proc_found : (lines : List Line) (place : ℕ) (l : Line) (proc : List ℕ) → Some (logical_line_of l) ≡ slice_get (logical_lines lines) place
    → IsTrue (begins_proc proc (words l.words.items)) → IsProcOf (logical_lines lines) proc
proc_found lines place l proc e begins = record {
  place = place;
  number = l.number;
  level = l.level;
  words = words l.words.items;
  there = sym e;
  begins = begins;
}
