mod Alike
mod Judging
