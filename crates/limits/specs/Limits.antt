-- Document 01's limits that definitions and contracts name more than once.
use Rattle.std.specs.Prelude.{ℕ, ◌^◌}

abbrev pub largest_image : ℕ
largest_image = 4096

abbrev pub most_lines : ℕ
most_lines = 16

-- 100,000 Hz, in 1/65,536 Hz
abbrev pub highest_frequency : ℕ
highest_frequency = 6553600000

-- 2^24 stands for 1
abbrev pub largest_x : ℕ
largest_x = 2 ^ 24

-- of a running sum
abbrev pub largest_sum : ℕ
largest_sum = 500000000000

-- of a set
abbrev pub largest_result : ℕ
largest_result = 2 ^ 31

abbrev pub last_level : ℕ
last_level = 2

abbrev pub longest_shown_text : ℕ
longest_shown_text = 65536
