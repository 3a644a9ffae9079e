mod StandingOpen
-- The worked example of a parameter that moves.
mod Moved
-- Unfinished functions, read under marks.
mod Marked
